-- From what each call tells to the answer as a whole.
use Rattle.std.proofs.Common.{◌≡◌, ℕ, ◌/◌, ◌≤◌, min, Bool, true, false, cond, leb, List, [], ◌++◌, length, take, drop, Ok, Err, Result, sym, refl, ap, ◌∙◌, subst, arith, le-ltb, leb-true}
use Rattle.std.proofs.lemmas.List.{take_at}
use Rattle.words.specs.declared.faults.SchemaFault.{SchemaFault}
use Rattle.words.specs.declared.faults.Refusal.TheVariants.{Limit}
use Rattle.words.specs.Faults.{fault_of, schema_fault}
use Rattle.words.specs.Words.{then, giving}
use Rattle.register_files.specs.Register.{File, read}
use Rattle.registers.specs.declared.writing.WriteFault.{WriteFault}
use Rattle.registers.specs.declared.writing.WriteFault.TheVariants.{Memory}
use Rattle.registers.specs.Holding.{kept}
use Rattle.registers.specs.Writing.{put, in_room}
use Rattle.streams.specs.Order.{words_of}
use Rattle.streams.specs.Sending.{whole, faulted}
use Rattle.streams.specs.Unblank.{within, unblanked, answer}
use Rattle.streams.proofs.Sending.{apart, all_read, taken, refused}

-- the answer to an input that is not too long
answer_short : (bs : List ℕ) → length bs ≤ 32768 → answer bs ≡ then (faulted schema_fault (read (whole bs))) unblanked
unfolding answer
answer_short bs short = ap (λ b. cond b (Err (fault_of Limit 8192)) (then (faulted schema_fault (read (whole bs))) unblanked)) (le-ltb 32768 (length bs) short)

-- what the reading tells of the answer
module _ (bs ws after : List ℕ) (n : ℕ) (count : n ≡ min (length bs / 4) (length ws)) (words : after ≡ words_of bs n ++ drop n ws)
    (room : length ws ≡ 8192) (short : length bs ≤ 32768) where
  pub read_refused : (x : SchemaFault) → giving {B = Unit {0}} tt (read (take n after)) ≡ Err x → answer bs ≡ Err (schema_fault x)
  read_refused x e =
      answer_short bs short
      ∙ ap (λ r. then (faulted schema_fault r) unblanked) (ap read (sym (all_read bs ws after n count words room short)) ∙ refused (read (take n after)) x e)

  pub read_done : (f g : File) → giving {B = Unit {0}} tt (read (take n after)) ≡ Ok tt → f ≡ kept g (read (take n after)) → read (whole bs) ≡ Ok f
  read_done f g e k = ap read (sym (all_read bs ws after n count words room short)) ∙ taken (read (take n after)) f g e k

pub answer_file : (bs : List ℕ) (f : File) → length bs ≤ 32768 → read (whole bs) ≡ Ok f → answer bs ≡ unblanked f
answer_file bs f short e = answer_short bs short ∙ ap (λ r. then (faulted schema_fault r) unblanked) e

-- what a write tells of its 8,192 words
refused_by : (ws out : List ℕ) (b : Bool) (x : WriteFault) → (in_room b ws out).0 ≡ Err x → cond b (Ok ws) (Err Memory) ≡ Err x
refused_by ws out true x e = absurd (apart e)
refused_by ws out false x e = let m : Memory ≡ x = cc in ap Err m

pub write_refused : (r : Result (List ℕ) WriteFault) (out after : List ℕ) (x : WriteFault) → length out ≡ 8192
    → ◌≡◌ {A = Result ℕ WriteFault × List ℕ} (Err x, after) (put r out) → within 8192 r ≡ Err x
write_refused (Ok ws) out after x room e =
    refused_by ws out (leb (length ws) 8192) x (subst (λ n. (in_room (leb (length ws) n) ws out).0 ≡ Err x) room (sym (ap (λ p. p.0) e)))
write_refused (Err y) out after x room e = sym (ap (λ p. giving [] p.0) e)

done_by : (ws out : List ℕ) (b : Bool) (n : ℕ) → (in_room b ws out).0 ≡ Ok n
    → (n ≡ length ws) × (b ≡ true) × (cond b (Ok ws) (Err Memory) ≡ Ok (take n (in_room b ws out).1))
done_by ws out true n e = let m : n ≡ length ws = cc in (m, refl, ap Ok (sym (take_at ws (drop (length ws) out) n (sym m))))
done_by ws out false n e = absurd (apart (sym e))

pub write_done : (r : Result (List ℕ) WriteFault) (out after : List ℕ) (n : ℕ) → length out ≡ 8192
    → ◌≡◌ {A = Result ℕ WriteFault × List ℕ} (Ok n, after) (put r out) → (n ≤ 8192) × (within 8192 r ≡ Ok (take n after))
write_done (Ok ws) out after n room e =
    let by : ℕ → Result ℕ WriteFault × List ℕ = λ k. in_room (leb (length ws) k) ws out in
    let d = done_by ws out (leb (length ws) 8192) n (subst (λ k. (by k).0 ≡ Ok n) room (sym (ap (λ p. p.0) e))) in
    let small : length ws ≤ 8192 = leb-true (length ws) 8192 d.1 in
    (omega arith, d.2 ∙ ap (λ k. Ok (take n (by k).1)) (sym room) ∙ ap (λ p. Ok (take n p.1)) (sym e))
write_done (Err y) out after n room e = absurd (apart (ap (λ p. p.0) e))
