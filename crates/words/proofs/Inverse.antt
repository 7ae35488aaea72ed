-- What an accepted reading says of its parts.
use Rattle.std.proofs.Common.{◌≡◌, Bool, true, false, cond, Ok, Err, Result, refl}
use Rattle.words.specs.declared.faults.WordFault.{WordFault}
use Rattle.words.specs.Words.{then, worded}

pub err_ok : {A E : Type 0} {e : E} {x : A} → Err e ≡ Ok x → ⊥
err_ok p = cc

pub then_ok : {A B E : Type 0} (r : Result A E) (f : A → Result B E) (y : B) → then r f ≡ Ok y → (x : A) × (r ≡ Ok x) × (f x ≡ Ok y)
then_ok (Ok x) f y p = (x, refl, p)
then_ok (Err e) f y p = absurd (err_ok p)

pub worded_ok : {A : Type 0} (r : Result A WordFault) (x : A) → worded r ≡ Ok x → r ≡ Ok x
worded_ok (Ok y) x p = cc
worded_ok (Err e) x p = absurd (err_ok p)

pub if_ok : {B E : Type 0} (b : Bool) (s : Result B E) (e : E) (y : B) → cond b s (Err e) ≡ Ok y → (b ≡ true) × (s ≡ Ok y)
if_ok true s e y p = (refl, p)
if_ok false s e y p = absurd (err_ok p)

pub else_ok : {B E : Type 0} (b : Bool) (s : Result B E) (e : E) (y : B) → cond b (Err e) s ≡ Ok y → (b ≡ false) × (s ≡ Ok y)
else_ok false s e y p = (refl, p)
else_ok true s e y p = absurd (err_ok p)
