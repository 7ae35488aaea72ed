-- From the bytes that come in to words, and from an answer to the bytes that are sent.
use Rattle.std.proofs.Common.{◌≡◌, ℕ, ◌+◌, ◌*◌, ◌/◌, ◌^◌, ◌<◌, ◌≤◌, min, List, [], ◌∷◌, ◌++◌, length, get_or, take, drop, IsErrAnd, Ok, Err, Result, sym, ap, ◌∙◌, arith}
use Rattle.std.proofs.lemmas.List.{take_all, take_at, length-take-le}
use Rattle.words.specs.declared.faults.Fault.{Fault}
use Rattle.words.specs.declared.faults.SchemaFault.{SchemaFault}
use Rattle.words.specs.Words.{tag, giving}
use Rattle.register_files.specs.Register.{File}
use Rattle.registers.specs.Holding.{kept}
use Rattle.streams.specs.Order.{bytes_of, words_of}
use Rattle.streams.specs.Sending.{whole, held, sent}
use Rattle.streams.proofs.Ordered.{words_length, words_take}

pub apart : {A E : Type 0} {x : A} {e : E} → ◌≡◌ {A = Result A E} (Ok x) (Err e) → ⊥
apart p = let z : ◌≡◌ {A = ℕ} 0 1 = cc in omega arith

-- the words that were read are all whole words of the input
pub all_read : (bs ws after : List ℕ) (n : ℕ) → n ≡ min (length bs / 4) (length ws) → after ≡ words_of bs n ++ drop n ws
    → length ws ≡ 8192 → length bs ≤ 32768 → take n after ≡ whole bs
all_read bs ws after n count words room short =
    let e : n ≡ length bs / 4 = omega arith in
    ap (take n) words ∙ take_at (words_of bs n) (drop n ws) n (words_length bs n) ∙ ap (words_of bs) e

-- a file was taken in, or refused
pub taken : (r : Result File SchemaFault) (f g : File) → giving {B = Unit {0}} tt r ≡ Ok tt → f ≡ kept g r → r ≡ Ok f
taken (Ok h) f g a e = ap Ok (sym e)
taken (Err x) f g a e = absurd (apart (sym a))

pub refused : (r : Result File SchemaFault) (x : SchemaFault) → giving {B = Unit {0}} tt r ≡ Err x → r ≡ Err x
refused (Ok h) x a = absurd (apart a)
refused (Err y) x a = let e : y ≡ x = cc in ap Err e

-- a fault on the way out is the answer
pub carried : (r : Result ℕ Fault) (ws : List ℕ) (a : Result (List ℕ) Fault) (x : Fault) → IsErrAnd r (λ y. y ≡ x) → a ≡ Err x → held r ws ≡ a
carried (Ok n) ws a x q e = absurd q
carried (Err y) ws a x q e = ap Err q ∙ sym e

-- all words of an answer are sent, and they are read back from what was sent
pub delivered : (ws out after : List ℕ) (r : ℕ) (a : Result (List ℕ) Fault) → ws ≡ sent a → length ws ≤ 8192 → length out ≡ 32768 → length after ≡ length out
    → r ≡ 4 * min (length ws) (length out / 4) → after ≡ bytes_of (take (r / 4) ws) ++ drop r out → words_of after (r / 4) ≡ take (r / 4) ws
    → (r ≤ 32768) × (r ≡ 4 * length (sent a)) × (after ≡ bytes_of (sent a) ++ drop r out) × (whole (take r after) ≡ ws)
delivered ws out after r a is few room same count bytes back =
    let n : r ≡ 4 * length ws = omega arith in
    let le : r ≤ length after = omega arith in
    let all : take (r / 4) ws ≡ ws = take_all (r / 4) ws (omega arith) in (
      omega arith,
      n ∙ ap (λ x. 4 * length x) is,
      bytes ∙ ap (λ x. bytes_of x ++ drop r out) (all ∙ is),
      ap (λ n. words_of (take r after) (n / 4)) (length-take-le r after le) ∙ words_take after (r / 4) r (omega arith) ∙ back ∙ all,
    )

-- a fault word shows its tag
pub fault_first : (ws : List ℕ) (w v : ℕ) → ws ≡ w ∷ [] → w ≡ 15 * 268435456 + v → w < 2 ^ 32 → tag (get_or ws 0 0) ≡ 15
fault_first ws w v is e h = ap (λ x. tag (get_or x 0 0)) is ∙ omega arith
