-- What a byte, a word and sixteen bytes do to the register, by what each byte becomes. Assumes nothing.
use mathlib.Core.Path.{◌≡◌, refl, sym, ap, ap₂, ◌∙◌}
use mathlib.Core.List.{List, [], ◌∷◌, ◌++◌}
use Prim.Native.Nat.{ℕ, zero, suc, ◌+◌, ◌*◌, ◌/◌, ◌%◌, ◌≤◌, ◌<◌}
use native.Mathlib.Numerals.{add-one}
use native.Mathlib.Omega.{arith}
use lib.Bits.{bit_xor, xor_zero_r, xor_comm, xor_shr}
use lib.ListN.{length, get_or, take, drop, drop_of_length-le}
use lib.Seq.{drop-cons, get_or-take, get_or-drop}
use Rattle.std.specs.Int.{from_le_bytes, w32}
use Rattle.std.specs.List.{fold, slice_index}
use Rattle.std.specs.Simd.{first_chunks}
use Rattle.std.proofs.lemmas.List.{take-append-drop, drop-drop}
use Rattle.crc32c.specs.Crc.{steps, run}
use Rattle.crc32c.specs.Table.{entry, word_at}
use Rattle.bits.specs.Xor.{xor_assoc}
use Rattle.crc32c.proofs.Laws.{steps_xor, steps_add, steps_split, steps_join}

-- ---- the definition, byte after byte

run_end : (c : ℕ) (b : List ℕ) (i : ℕ) → length b ≤ i → run c (drop i b) ≡ c
unfolding run
run_end c b i h = ap (run c) (drop_of_length-le b h)

run_byte : (c : ℕ) (b : List ℕ) (i : ℕ) → i < length b → run c (drop i b) ≡ run (steps 8 (bit_xor c (get_or b i 0))) (drop (i + 1) b)
unfolding run
run_byte c b i h =
    ap (run c) (drop-cons b i 0 h) ∙ ap (λ (k : ℕ). run (steps 8 (bit_xor c (get_or b i 0))) (drop k b)) (sym (add-one i))

-- the register after two lists, one behind the other
run-append : (c : ℕ) (a b : List ℕ) → run c (a ++ b) ≡ run (run c a) b
unfolding run
run-append c [] b = refl
run-append c (x ∷ a) b = run-append (steps 8 (bit_xor c x)) a b

-- as a fold: byte by byte, and in chunks of n bytes with a rest
run_fold : (c : ℕ) (b : List ℕ) → fold (λ (a x : ℕ). steps 8 (bit_xor a x)) c b ≡ run c b
unfolding run
run_fold c [] = refl
run_fold c (x ∷ b) = run_fold (steps 8 (bit_xor c x)) b

chunks_fold : (n k c : ℕ) (b : List ℕ) → run (fold run c (first_chunks n k b)) (drop (k * n) b) ≡ run c b
chunks_fold n zero c b = let e : 0 * n ≡ 0 = omega arith in ap (λ (i : ℕ). run c (drop i b)) e
chunks_fold n (suc k) c b =
    let e : suc k * n ≡ n + k * n = omega arith in
    ap (λ (i : ℕ). run (fold run (run c (take n b)) (first_chunks n k (drop n b))) (drop i b)) e
    ∙ ap (run (fold run (run c (take n b)) (first_chunks n k (drop n b)))) (sym (drop-drop (k * n) n b))
    ∙ chunks_fold n k (run c (take n b)) (drop n b)
    ∙ sym (run-append c (take n b) (drop n b)) ∙ ap (run c) (take-append-drop n b)

pub register_fold : (n k c d r : ℕ) (b : List ℕ) → d ≡ fold run c (first_chunks n k b) → r ≡ fold (λ (a x : ℕ). steps 8 (bit_xor a x)) d (drop (k * n) b) → r ≡ run c b
register_fold n k c d r b p q =
    q ∙ run_fold d (drop (k * n) b) ∙ ap (λ (x : ℕ). run x (drop (k * n) b)) p ∙ chunks_fold n k c b

-- ---- a byte and a word into the register; low is the byte that falls out

pub byte_in : (c x low : ℕ) → x < 256 → low ≡ bit_xor c x % 256 → bit_xor (c / 256) (entry low 0) ≡ steps 8 (bit_xor c x)
unfolding steps
byte_in c x low h e =
    let z : x / 256 ≡ 0 = omega arith in
    ap₂ bit_xor (sym (xor_shr c x 8 ∙ ap (bit_xor (c / 256)) z ∙ xor_zero_r (c / 256))) (ap (steps 8) e) ∙ sym (steps_split 0 (bit_xor c x))

byte_off : (j w : ℕ) → entry w (j + 1) ≡ bit_xor (entry (w / 256) j) (entry (w % 256) (j + 1))
byte_off j w =
    let e : 8 + 8 * (j + 1) ≡ 8 + (8 + 8 * j) = omega arith in
    ap (λ (n : ℕ). steps n w) e ∙ steps_split (8 + 8 * j) w
    ∙ ap (bit_xor (entry (w / 256) j)) (ap (λ (n : ℕ). steps n (w % 256)) (sym e))

-- p, q, r, s are the word's bytes, the highest first
pub word_in : (j w p q r s : ℕ) → w < 4294967296
    → p ≡ w / 16777216 % 256 → q ≡ w / 65536 % 256 → r ≡ w / 256 % 256 → s ≡ w % 256
    → bit_xor (bit_xor (bit_xor (entry p j) (entry q (j + 1))) (entry r (j + 2))) (entry s (j + 3)) ≡ entry w (j + 3)
word_in j w p q r s hw ep eq er es =
    let p' : w / 256 / 256 / 256 ≡ p = omega arith in
    let q' : w / 256 / 256 % 256 ≡ q = omega arith in
    let r' : w / 256 % 256 ≡ r = omega arith in
    let s' : w % 256 ≡ s = omega arith in
    let two : j + 1 + 1 ≡ j + 2 = omega arith in
    let three : j + 1 + 1 + 1 ≡ j + 3 = omega arith in
    sym
    (ap (entry w) (sym three) ∙ byte_off (j + 1 + 1) w
    ∙ ap₂ bit_xor
    (byte_off (j + 1) (w / 256)
    ∙ ap₂ bit_xor (byte_off j (w / 256 / 256) ∙ ap₂ bit_xor (ap (λ (y : ℕ). entry y j) p') (ap (λ (y : ℕ). entry y (j + 1)) q')) (ap₂ entry r' two))
    (ap₂ entry s' three))

-- ---- a word of the bytes

word_join : (c p q r s : ℕ) → p < 256 → q < 256 → r < 256
    → steps 8 (bit_xor (steps 8 (bit_xor (steps 8 (bit_xor (steps 8 (bit_xor c p)) q)) r)) s) ≡ steps 32 (bit_xor c (p + 256 * q + 65536 * r + 16777216 * s))
word_join c p q r s hp hq hr =
    let e : p + (q + (r + s * 256) * 256) * 256 ≡ p + 256 * q + 65536 * r + 16777216 * s = omega arith in
    steps_join 8 (steps 8 (bit_xor (steps 8 (bit_xor c p)) q)) r s hr
    ∙ steps_join 16 (steps 8 (bit_xor c p)) q (r + s * 256) hq
    ∙ steps_join 24 c p (q + (r + s * 256) * 256) hp
    ∙ ap (λ (x : ℕ). steps 32 (bit_xor c x)) e

module _ (b : List ℕ) (small : (k : ℕ) → get_or b k 0 < 256) where
  run_word : (c i : ℕ) → i + 4 ≤ length b → run c (drop i b) ≡ run (steps 32 (bit_xor c (word_at b i))) (drop (i + 4) b)
  run_word c i h =
      let e₂ : i + 1 + 1 ≡ i + 2 = omega arith in
      let e₃ : i + 2 + 1 ≡ i + 3 = omega arith in
      let e₄ : i + 3 + 1 ≡ i + 4 = omega arith in
      let x = get_or b i 0 in
      let y = get_or b (i + 1) 0 in
      let z = get_or b (i + 2) 0 in
      run_byte c b i (omega arith)
      ∙ run_byte (steps 8 (bit_xor c x)) b (i + 1) (omega arith)
      ∙ ap (λ (k : ℕ). run (steps 8 (bit_xor (steps 8 (bit_xor c x)) y)) (drop k b)) e₂
      ∙ run_byte (steps 8 (bit_xor (steps 8 (bit_xor c x)) y)) b (i + 2) (omega arith)
      ∙ ap (λ (k : ℕ). run (steps 8 (bit_xor (steps 8 (bit_xor (steps 8 (bit_xor c x)) y)) z)) (drop k b)) e₃
      ∙ run_byte (steps 8 (bit_xor (steps 8 (bit_xor (steps 8 (bit_xor c x)) y)) z)) b (i + 3) (omega arith)
      ∙ ap₂ (λ (a k : ℕ). run a (drop k b)) (word_join c x y z (get_or b (i + 3) 0) (small i) (small (i + 1)) (small (i + 2))) e₄

-- one word more after a register that is a sum
more : (m a b w : ℕ) → steps 32 (bit_xor (bit_xor a (steps m b)) w) ≡ bit_xor (bit_xor (steps 32 a) (steps (m + 32) b)) (steps 32 w)
more m a b w =
    steps_xor 32 (bit_xor a (steps m b)) w
    ∙ ap (λ (x : ℕ). bit_xor x (steps 32 w)) (steps_xor 32 a (steps m b) ∙ ap (bit_xor (steps 32 a)) (sym (steps_add m 32 b)))

turned : (a b c d : ℕ) → bit_xor (bit_xor (bit_xor a b) c) d ≡ bit_xor (bit_xor (bit_xor d c) b) a
turned a b c d =
    xor_comm (bit_xor (bit_xor a b) c) d ∙ ap (bit_xor d) (xor_comm (bit_xor a b) c ∙ ap (bit_xor c) (xor_comm a b))
    ∙ sym (xor_assoc d c (bit_xor b a)) ∙ sym (xor_assoc (bit_xor d c) b a)

four : (x v u w : ℕ) → steps 32 (bit_xor (steps 32 (bit_xor (steps 32 (bit_xor (steps 32 x) v)) u)) w)
    ≡ bit_xor (bit_xor (bit_xor (steps 32 w) (steps 64 u)) (steps 96 v)) (steps 128 x)
four x v u w =
    ap (λ (y : ℕ). steps 32 (bit_xor (steps 32 (bit_xor y u)) w))
    (steps_xor 32 (steps 32 x) v ∙ ap (λ (y : ℕ). bit_xor y (steps 32 v)) (sym (steps_add 32 32 x)))
    ∙ ap (λ (y : ℕ). steps 32 (bit_xor y w))
    (more 32 (steps 64 x) v u ∙ ap (λ (y : ℕ). bit_xor (bit_xor y (steps 64 v)) (steps 32 u)) (sym (steps_add 64 32 x)))
    ∙ more 32 (bit_xor (steps 96 x) (steps 64 v)) u w
    ∙ ap (λ (y : ℕ). bit_xor (bit_xor y (steps 64 u)) (steps 32 w))
    (steps_xor 32 (steps 96 x) (steps 64 v) ∙ ap₂ bit_xor (sym (steps_add 96 32 x)) (sym (steps_add 64 32 v)))
    ∙ turned (steps 128 x) (steps 96 v) (steps 64 u) (steps 32 w)

turn_run : (b : List ℕ) (small : (k : ℕ) → get_or b k 0 < 256) (c i : ℕ) → i + 16 ≤ length b
    → run c (drop i b)
    ≡ run (bit_xor (bit_xor (bit_xor (entry (word_at b (i + 12)) 3) (entry (word_at b (i + 8)) 7)) (entry (word_at b (i + 4)) 11)) (entry (bit_xor c (word_at b i)) 15)) (drop (i + 16) b)
turn_run b small c i h =
    let e₂ : i + 4 + 4 ≡ i + 8 = omega arith in
    let e₃ : i + 8 + 4 ≡ i + 12 = omega arith in
    let e₄ : i + 12 + 4 ≡ i + 16 = omega arith in
    let c₁ = steps 32 (bit_xor c (word_at b i)) in
    let c₂ = steps 32 (bit_xor c₁ (word_at b (i + 4))) in
    let c₃ = steps 32 (bit_xor c₂ (word_at b (i + 8))) in
    run_word b small c i (omega arith)
    ∙ run_word b small c₁ (i + 4) (omega arith)
    ∙ ap (λ (k : ℕ). run c₂ (drop k b)) e₂
    ∙ run_word b small c₂ (i + 8) (omega arith)
    ∙ ap (λ (k : ℕ). run c₃ (drop k b)) e₃
    ∙ run_word b small c₃ (i + 12) (omega arith)
    ∙ ap₂ (λ (a k : ℕ). run a (drop k b)) (four (bit_xor c (word_at b i)) (word_at b (i + 4)) (word_at b (i + 8)) (word_at b (i + 12))) e₄

-- ---- sixteen bytes, as four words

chunk_at : (n m k : ℕ) (b : List ℕ) → k < m → get_or (first_chunks n m b) k [] ≡ take n (drop (k * n) b)
chunk_at n zero k b h = absurd (omega arith)
chunk_at n (suc m) zero b h = let e : 0 ≡ 0 * n = omega arith in ap (λ (i : ℕ). take n (drop i b)) e
chunk_at n (suc m) (suc k) b h =
    let e : n + k * n ≡ suc k * n = omega arith in
    chunk_at n m k (drop n b) (omega arith) ∙ ap (take n) (drop-drop (k * n) n b) ∙ ap (λ (i : ℕ). take n (drop i b)) e

chunk_word : (ws : List (List ℕ)) (b : List ℕ) (k : ℕ) → ws ≡ first_chunks 4 (length b / 4) b → k < length b / 4
    → from_le_bytes w32 (get_or ws k []) ≡ word_at b (k * 4)
chunk_word ws b k e h =
    let i : (d : ℕ) → d < 4 → slice_index (get_or ws k []) d ≡ get_or b (k * 4 + d) 0 =
    λ d l. ap (λ (t : List ℕ). get_or t d 0) (ap (λ (l : List (List ℕ)). get_or l k []) e ∙ chunk_at 4 (length b / 4) k b h)
    ∙ get_or-take 4 (drop (k * 4) b) d 0 l ∙ get_or-drop (k * 4) b d 0 in
    let bytes = get_or ws k [] in
    let first : k * 4 + 0 ≡ k * 4 = omega arith in
    let sum : slice_index bytes 0 + slice_index bytes 1 * 256 + slice_index bytes 2 * 65536 + slice_index bytes 3 * 16777216 ≡ word_at b (k * 4) =
    omega (arith, i 0 (omega arith), ap (λ (n : ℕ). get_or b n 0) first, i 1 (omega arith), i 2 (omega arith), i 3 (omega arith)) in
    sum

-- ws are the bytes as four words, and x what the register becomes by the last of them
pub turn : (b : List ℕ) (ws : List (List ℕ)) (small : (k : ℕ) → get_or b k 0 < 256) (c : ℕ) → length b ≡ 16 → ws ≡ first_chunks 4 (length b / 4) b
    → bit_xor (bit_xor (bit_xor (entry (from_le_bytes w32 (get_or ws 3 [])) 3) (entry (from_le_bytes w32 (get_or ws 2 [])) 7)) (entry (from_le_bytes w32 (get_or ws 1 [])) 11)) (entry (bit_xor c (from_le_bytes w32 (get_or ws 0 []))) 15)
    ≡ run c b
turn b ws small c l e =
    ap₂ bit_xor
    (ap₂ bit_xor
    (ap₂ bit_xor (ap (λ (w : ℕ). entry w 3) (chunk_word ws b 3 e (omega arith))) (ap (λ (w : ℕ). entry w 7) (chunk_word ws b 2 e (omega arith))))
    (ap (λ (w : ℕ). entry w 11) (chunk_word ws b 1 e (omega arith))))
    (ap (λ (w : ℕ). entry (bit_xor c w) 15) (chunk_word ws b 0 e (omega arith)))
    ∙ sym (turn_run b small c 0 (omega arith) ∙ run_end _ b 16 (omega arith))
