-- The whole promise of a table.
use Rattle.std.proofs.Common.{◌≡◌, ℕ, Bool, true, false, cond, leb, List, ◌++◌, length, take, drop, Some, None, Ok, Err, Option, Result, sym, refl, ap, ◌∙◌, subst}
use Rattle.std.proofs.lemmas.List.{take_at}
use Rattle.words.specs.declared.faults.Refusal.{Refusal}
use Rattle.words.specs.declared.faults.Refusal.TheVariants as refusal
use Rattle.machine.specs.Loaded.{Loaded}
use Rattle.machine.specs.State.{State, start}
use Rattle.machine.specs.Shift.{calls}
use Rattle.machine.specs.Complete.{Complete}
use Rattle.machine.specs.Finish.{finish_words, finish_fault, put_words}
use Rattle.machine.specs.Promise.{Finishes, Promise}
use Rattle.machine.proofs.Runs.{one_reading_of_calls}
use Rattle.machine.proofs.Finished.{complete_keeps}
use Rattle.machine.proofs.Written.{one_finish, finish_accepts}
use Rattle.machine.proofs.Loads.{accepted, taken_from, same_load}

-- words that were put stand at the front of the output
room_told : (b : Bool) (ws out : List ℕ) (n : ℕ) → let r : Result ℕ Refusal × List ℕ = cond b (Ok (length ws), ws ++ drop (length ws) out) (Err refusal.Memory, out) in r.0 ≡ Ok n → take n r.1 ≡ ws
room_told true ws out n e = let q : length ws ≡ n = cc in take_at ws (drop (length ws) out) n q
room_told false ws out n e = absurd (cc)

pub put_told : (f : Option Refusal) (ws out : List ℕ) (n : ℕ) → (put_words f ws out).0 ≡ Ok n → (f ≡ None) × (take n (put_words f ws out).1 ≡ ws)
put_told (Some x) ws out n e = absurd (cc)
put_told None ws out n e = (refl, room_told (leb (length ws) (length out)) ws out n e)

-- a finish that is accepted is not refused, and its words are those of the numbering
finishes_told : (L : Loaded) (s : State) (vs : List ℕ) → Finishes L s vs → (finish_fault L s ≡ None) × (vs ≡ finish_words L s)
finishes_told L s vs f = let t = put_told (finish_fault L s) (finish_words L s) f.0 f.1 f.2 in (t.0, sym f.3 ∙ t.1)

pub promise : Promise
promise work ws m L e cs =
    let acc = accepted work ws m L e in
    let done = λ (vs : List ℕ) (f : Finishes L (calls L cs start) vs). (finish_accepts L acc cs).0 (finishes_told L (calls L cs start) vs f).0 in
    record {
      source = taken_from work ws m L e;
      one_reading = one_reading_of_calls L acc cs;
      finished = λ vs f. (let c = done vs f in (record { landings = c.landed; cells = c.defined }, complete_keeps L (calls L cs start) c));
      numbered = λ vs f. (finishes_told L (calls L cs start) vs f).1;
      same_words = λ work' K d ds us vs f g.
          let q = same_load work ws m L e work' K d in
          let t = finishes_told K (calls K ds start) vs g in
          let c = (finish_accepts K (accepted work' ws m K d) ds).0 t.0 in
          (finishes_told L (calls L cs start) us f).1
          ∙ (one_finish L acc L.capacity K.capacity cs ds (done us f) (subst (λ M. Complete M (calls M ds start)) q c)
          ∙ (ap (λ M. finish_words M (calls M ds start)) (sym q) ∙ sym t.1));
    }
