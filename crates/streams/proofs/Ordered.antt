-- One more word is written, as a word or as four bytes; and words read back.
use Rattle.std.proofs.Common.{◌≡◌, ℕ, zero, suc, ◌+◌, ◌-◌, ◌*◌, ◌/◌, ◌%◌, ◌^◌, ◌<◌, ◌≤◌, List, [], ◌∷◌, ◌++◌, length, get_or, take, drop, set, sym, refl, ap, ◌∙◌, append_assoc, mod-eq_of_lt, add-one, arith, length-append}
use native.Mathlib.Nat.{div-div-eq-div-mul, div-add-mod}
use borrow.Rule.Slice.PartMut.{put_mid}
use Rattle.std.proofs.lemmas.List.{drop_more, set_at, take_more, take_at, drop_at, drop-drop, take-append-drop, length-take-le, get_or-append-add, get_or-take}
use Rattle.std.proofs.lemmas.Slice.{take-put_mid, drop-put_mid}
use Rattle.streams.specs.Order.{four, bytes_of, word_at, words_of}

pub words_length : (bs : List ℕ) (n : ℕ) → length (words_of bs n) ≡ n
words_length bs zero = refl
words_length bs (suc n) = simp length-append (let h = words_length bs n in omega arith)

pub words_more : (bs : List ℕ) (n : ℕ) (xs : List ℕ) (v : ℕ) → n < length xs → v ≡ word_at bs n
    → set (words_of bs n ++ drop n xs) n v ≡ words_of bs (n + 1) ++ drop (n + 1) xs
words_more bs n xs v h e =
    ap (λ t. set (words_of bs n ++ t) n v) (drop_more xs n 0 h)
    ∙ set_at (words_of bs n) (get_or xs n 0) (drop (n + 1) xs) v n (words_length bs n)
    ∙ ap (λ y. words_of bs n ++ y ∷ drop (n + 1) xs) e
    ∙ sym (append_assoc (words_of bs n) (word_at bs n ∷ []) (drop (n + 1) xs))
    ∙ ap (λ k. words_of bs k ++ drop (n + 1) xs) (sym (add-one n))

bytes_length : (ws : List ℕ) → length (bytes_of ws) ≡ 4 * length ws
bytes_length [] = refl
bytes_length (w ∷ ws) = let h = bytes_length ws in omega arith

bytes_push : (ws : List ℕ) (w : ℕ) → bytes_of (ws ++ w ∷ []) ≡ bytes_of ws ++ four w
bytes_push [] w = refl
bytes_push (x ∷ ws) w = ap (λ t. four x ++ t) (bytes_push ws w)

-- four items written at a, behind a front of that length
put_four : (front rest ys : List ℕ) (a k : ℕ) → length front ≡ a → k ≡ 4 → length ys ≡ 4
    → put_mid a k (front ++ rest) ys ≡ (front ++ ys) ++ drop 4 rest
put_four front rest ys a k f e y =
    let l : a ≤ length (front ++ rest) = simp length-append (omega arith) in
    let n : a + 4 ≡ a + length ys = omega arith in
    let s : a + k ≤ a + 4 = omega arith in
    let t : length ys ≡ k = omega arith in
    sym (take-append-drop (a + 4) (put_mid a k (front ++ rest) ys))
    ∙ ap (λ u. u ++ drop (a + 4) (put_mid a k (front ++ rest) ys)) (take-put_mid a k (front ++ rest) ys (a + 4) n l ∙ ap (λ u. u ++ ys) (take_at front rest a f))
    ∙ ap (λ u. (front ++ ys) ++ u) (drop-put_mid a k (front ++ rest) ys (a + 4) s l t ∙ sym (drop-drop 4 a (front ++ rest)) ∙ ap (drop 4) (drop_at front rest a f))

pub bytes_more : (ws : List ℕ) (i : ℕ) (bs xs ys : List ℕ) → i < length ws
    → xs ≡ bytes_of (take i ws) ++ drop (4 * i) bs → ys ≡ four (get_or ws i 0)
    → put_mid (4 * i) (4 * i + 4 - 4 * i) xs ys ≡ bytes_of (take (i + 1) ws) ++ drop (4 * (i + 1)) bs
bytes_more ws i bs xs ys h x y =
    let le : i ≤ length ws = omega arith in
    let f : length (bytes_of (take i ws)) ≡ 4 * i = bytes_length (take i ws) ∙ ap (λ n. 4 * n) (length-take-le i ws le) in
    let k : 4 * i + 4 - 4 * i ≡ 4 = omega arith in
    let e : 4 * i + 4 ≡ 4 * (i + 1) = omega arith in
    ap (λ u. put_mid (4 * i) (4 * i + 4 - 4 * i) u ys) x
    ∙ put_four (bytes_of (take i ws)) (drop (4 * i) bs) ys (4 * i) (4 * i + 4 - 4 * i) f k (ap length y)
    ∙ ap (λ u. (bytes_of (take i ws) ++ u) ++ drop 4 (drop (4 * i) bs)) y
    ∙ ap (λ u. u ++ drop 4 (drop (4 * i) bs)) (sym (ap bytes_of (take_more ws i 0 h) ∙ bytes_push (take i ws) (get_or ws i 0)))
    ∙ ap (λ u. bytes_of (take (i + 1) ws) ++ u) (drop-drop 4 (4 * i) bs ∙ ap (λ n. drop n bs) e)

-- four bytes make up their word
joins : (w : ℕ) → w < 2 ^ 32 → w / 16777216 % 256 * 16777216 + w / 65536 % 256 * 65536 + w / 256 % 256 * 256 + w % 256 ≡ w
joins w h =
    let two : w / 256 / 256 ≡ w / 65536 = div-div-eq-div-mul w 256 256 in
    let three : w / 65536 / 256 ≡ w / 16777216 = div-div-eq-div-mul w 65536 256 in
    let high : w / 16777216 < 256 = omega arith in
    let first : w / 16777216 % 256 ≡ w / 16777216 = mod-eq_of_lt high in
    omega (arith, div-add-mod w 256, div-add-mod (w / 256) 256, div-add-mod (w / 65536) 256)

behind_four : (w : ℕ) (bs : List ℕ) (j n : ℕ) → j ≡ 4 + n → get_or (four w ++ bs) j 0 ≡ get_or bs n 0
behind_four w bs j n e = ap (λ k. get_or (four w ++ bs) k 0) e ∙ get_or-append-add (four w) bs n 0

next_word : (w : ℕ) (bs : List ℕ) (i : ℕ) → word_at (four w ++ bs) (suc i) ≡ word_at bs i
next_word w bs i =
    let a = behind_four w bs (4 * suc i) (4 * i) (omega arith) in
    let b = behind_four w bs (4 * suc i + 1) (4 * i + 1) (omega arith) in
    let c = behind_four w bs (4 * suc i + 2) (4 * i + 2) (omega arith) in
    let d = behind_four w bs (4 * suc i + 3) (4 * i + 3) (omega arith) in
    cc

word_back : (ws rest : List ℕ) (i : ℕ) → i < length ws → get_or ws i 0 < 2 ^ 32 → word_at (bytes_of ws ++ rest) i ≡ get_or ws i 0
word_back [] rest i l h = absurd (omega arith)
word_back (w ∷ ws) rest zero l h = joins w h
word_back (w ∷ ws) rest (suc i) l h = next_word w (bytes_of ws ++ rest) i ∙ word_back ws rest i (omega arith) h

-- the first words of the bytes of words are those words
pub words_back : (ws rest : List ℕ) (n k : ℕ) → n ≤ k → k ≤ length ws → ((i : ℕ) → get_or ws i 0 < 2 ^ 32)
    → words_of (bytes_of (take k ws) ++ rest) n ≡ take n ws
words_back ws rest zero k l m h = refl
words_back ws rest (suc n) k l m h =
    let n≤k : n ≤ k = omega arith in
    let n<k : n < k = omega arith in
    let n<l : n < length ws = omega arith in
    let same = get_or-take k ws n 0 n<k in
    let inside : n < length (take k ws) = omega (arith, length-take-le k ws m) in
    let e = words_back ws rest n k n≤k m h in
    let w = word_back (take k ws) rest n inside (omega (arith, h n, same)) in
    ap (λ x. x ++ word_at (bytes_of (take k ws) ++ rest) n ∷ []) e
    ∙ ap (λ x. take n ws ++ x ∷ []) (w ∙ same)
    ∙ sym (take_more ws n 0 n<l)
    ∙ ap (λ x. take x ws) (add-one n)

-- the loop's last turn: n words were written, as 4 * n bytes
pub all_written : (ws bs after : List ℕ) (i n : ℕ) → i ≡ n → n ≤ length ws → after ≡ bytes_of (take i ws) ++ drop (4 * i) bs → ((k : ℕ) → get_or ws k 0 < 2 ^ 32)
    → (after ≡ bytes_of (take (4 * n / 4) ws) ++ drop (4 * n) bs) × (words_of after (4 * n / 4) ≡ take (4 * n / 4) ws)
all_written ws bs after i n e m h fits =
    let q : 4 * n / 4 ≡ n = omega arith in
    let s : bytes_of (take i ws) ++ drop (4 * i) bs ≡ bytes_of (take n ws) ++ drop (4 * n) bs = ap (λ k. bytes_of (take k ws) ++ drop (4 * k) bs) e in
    rw q (h ∙ s, ap (λ x. words_of x n) (h ∙ s) ∙ words_back ws (drop (4 * n) bs) n n (omega arith) m fits)

-- words that stand in a front of the bytes
word_take : (bs : List ℕ) (i k : ℕ) → 4 * i + 4 ≤ k → word_at (take k bs) i ≡ word_at bs i
word_take bs i k h =
    let a = get_or-take k bs (4 * i) 0 (omega arith) in
    let b = get_or-take k bs (4 * i + 1) 0 (omega arith) in
    let c = get_or-take k bs (4 * i + 2) 0 (omega arith) in
    let d = get_or-take k bs (4 * i + 3) 0 (omega arith) in
    cc

pub words_take : (bs : List ℕ) (n k : ℕ) → 4 * n ≤ k → words_of (take k bs) n ≡ words_of bs n
words_take bs zero k h = refl
words_take bs (suc n) k h = let e = words_take bs n k (omega arith) in let w = word_take bs n k (omega arith) in cc
