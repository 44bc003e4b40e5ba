-- What the functions on labels answer and leave. Assumes nothing.
use Rattle.std.specs.Prelude.{◌≡◌, refl, Bool, true, false, cond, ◌&&◌, List, [], ◌∷◌, ℕ, eqb, length, set, Ok, Err, Some, None}
use Rattle.std.proofs.Common.{ap, ◌∙◌, arith, eq-eqb, ne_eqb}
use Rattle.disk.specs.Refusal.{number_of}
use Rattle.disk.specs.declared.refusal.Refusal.TheVariants.{BadImage, NoLabel}
use Rattle.disk.specs.Refusal.{Outcome}
use Rattle.label.specs.Valid.{decode_of}
use Rattle.label.specs.declared.fields.Label.{Label}
use Rattle.label.specs.Fields.{Decoded}

abbrev pub label_of : ℕ → ℕ → ℕ → ℕ → ℕ → ℕ → ℕ → ℕ → ℕ → ℕ → Label
label_of k m slot c sectors shelf generation out rebuilding mark =
    record {
      k = k;
      m = m;
      slot = slot;
      c = c;
      sectors = sectors;
      shelf = shelf;
      generation = generation;
      out = out;
      rebuilding = rebuilding;
      mark = mark;
    }

-- 0, or the refusal's code
abbrev pub number_of_outcome : Outcome → ℕ
number_of_outcome (Ok tt) = 0
number_of_outcome (Err x) = number_of x

-- k, m, c, S, shelf, generation, out, rebuilding, mark
abbrev pub fields_of : Label → List ℕ
fields_of l =
    l.k ∷ l.m ∷ l.c ∷ l.sectors ∷ l.shelf ∷ l.generation ∷ l.out ∷ l.rebuilding ∷ l.mark ∷ []

-- a sector of 512 bytes and room for nine numbers
unfoldable pub sizes_of : ℕ → ℕ → Bool
sizes_of sector fields = eqb sector 512 && eqb fields 9

abbrev pub number_of_decoded : Decoded → ℕ
number_of_decoded (Some l) = 0
number_of_decoded None = number_of NoLabel

abbrev pub fields_of_decoded : Decoded → List ℕ → List ℕ
fields_of_decoded (Some l) f = fields_of l
fields_of_decoded None f = f

-- BAD_IMAGE where a size is wrong; NO_LABEL where it is no valid label of that slot in that place; else 0
abbrev pub decode_number : ℕ → ℕ → List ℕ → ℕ → ℕ
decode_number slot place sector count = cond (sizes_of (length sector) count) (number_of_decoded (decode_of sector slot place)) (number_of BadImage)

-- and what it leaves in the fields
abbrev pub after_decode : ℕ → ℕ → List ℕ → List ℕ → List ℕ
after_decode slot place sector f = cond (sizes_of (length sector) (length f)) (fields_of_decoded (decode_of sector slot place) f) f

pub nine : (f : List ℕ) (a b c d e g h i j : ℕ) → length f ≡ 9
    → set (set (set (set (set (set (set (set (set f 0 a) 1 b) 2 c) 3 d) 4 e) 5 g) 6 h) 7 i) 8 j ≡ a ∷ b ∷ c ∷ d ∷ e ∷ g ∷ h ∷ i ∷ j ∷ []
nine (x0 ∷ x1 ∷ x2 ∷ x3 ∷ x4 ∷ x5 ∷ x6 ∷ x7 ∷ x8 ∷ []) a b c d e g h i j q = refl
nine (x0 ∷ x1 ∷ x2 ∷ x3 ∷ x4 ∷ x5 ∷ x6 ∷ x7 ∷ x8 ∷ x9 ∷ f) a b c d e g h i j q = absurd (omega arith)
nine [] a b c d e g h i j q = absurd (omega arith)
nine (x0 ∷ []) a b c d e g h i j q = absurd (omega arith)
nine (x0 ∷ x1 ∷ []) a b c d e g h i j q = absurd (omega arith)
nine (x0 ∷ x1 ∷ x2 ∷ []) a b c d e g h i j q = absurd (omega arith)
nine (x0 ∷ x1 ∷ x2 ∷ x3 ∷ []) a b c d e g h i j q = absurd (omega arith)
nine (x0 ∷ x1 ∷ x2 ∷ x3 ∷ x4 ∷ []) a b c d e g h i j q = absurd (omega arith)
nine (x0 ∷ x1 ∷ x2 ∷ x3 ∷ x4 ∷ x5 ∷ []) a b c d e g h i j q = absurd (omega arith)
nine (x0 ∷ x1 ∷ x2 ∷ x3 ∷ x4 ∷ x5 ∷ x6 ∷ []) a b c d e g h i j q = absurd (omega arith)
nine (x0 ∷ x1 ∷ x2 ∷ x3 ∷ x4 ∷ x5 ∷ x6 ∷ x7 ∷ []) a b c d e g h i j q = absurd (omega arith)

pub sizes_sector : (s f : ℕ) → (s ≡ 512 → ⊥) → sizes_of s f ≡ false
unfolding sizes_of
sizes_sector s f n = ap (λ (b : Bool). b && eqb f 9) (ne_eqb s 512 n)

pub sizes_fields : (s f : ℕ) → s ≡ 512 → (f ≡ 9 → ⊥) → sizes_of s f ≡ false
unfolding sizes_of
sizes_fields s f e n = ap (λ (b : Bool). b && eqb f 9) (eq-eqb s 512 e) ∙ ne_eqb f 9 n

pub sizes_right : (s f : ℕ) → s ≡ 512 → f ≡ 9 → sizes_of s f ≡ true
unfolding sizes_of
sizes_right s f e g = ap (λ (b : Bool). b && eqb f 9) (eq-eqb s 512 e) ∙ eq-eqb f 9 g

module _ (slot place : ℕ) (s f : List ℕ) where
  pub decode_sizes : sizes_of (length s) (length f) ≡ false → (number_of BadImage ≡ decode_number slot place s (length f)) × (f ≡ after_decode slot place s f)
  decode_sizes e = (simp e, simp e)

  pub decode_none : sizes_of (length s) (length f) ≡ true → decode_of s slot place ≡ None
      → (number_of NoLabel ≡ decode_number slot place s (length f)) × (f ≡ after_decode slot place s f)
  decode_none e d = (simp (e, d), simp (e, d))

  pub decode_valid : (l : Label) (g : List ℕ) → sizes_of (length s) (length f) ≡ true → decode_of s slot place ≡ Some l → g ≡ fields_of l
      → (0 ≡ decode_number slot place s (length f)) × (g ≡ after_decode slot place s f)
  decode_valid l g e d q = (simp (e, d), q ∙ simp (e, d))
