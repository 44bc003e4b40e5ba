-- The label's bytes as the code writes them, field after field. Assumes nothing.
use mathlib.Core.Path.{◌≡◌, refl, ap, ap₂, ◌∙◌}
use mathlib.Core.List.{List, [], ◌∷◌, ◌++◌}
use Prim.Native.Nat.{ℕ, ◌%◌}
use lib.ListN.{length, replicate, set, take}
use lib.Seq.{sets}
use Rattle.disk.specs.Number.{with_number, bytes_of}
use Rattle.crc32c.specs.Crc.{crc_of}
use Rattle.label.specs.Bytes.{letters, version, label_bytes, sealed, unsealed}
use Rattle.label.specs.declared.fields.Label.{Label}

abbrev pub built : Label → List ℕ
built l =
    let a = with_number 2 (with_number 8 (replicate 512 0) 0 letters) 8 version in
    let b = with_number 4 (sets a 10 (l.k % 256 ∷ l.m % 256 ∷ l.slot % 256 ∷ l.c % 256 ∷ [])) 16 l.sectors in
    let e = with_number 4 (with_number 8 (with_number 8 b 20 l.shelf) 28 l.generation) 36 l.out in
    with_number 4 (set e 40 (l.rebuilding % 256)) 44 l.mark

pub built_is : (l : Label) → built l ≡ unsealed l
unfolding bytes_of with_number label_bytes unsealed
built_is l = refl

pub length_label : (l : Label) → length (label_bytes l) ≡ 508
unfolding bytes_of label_bytes
length_label l = refl

pub length_unsealed : (l : Label) → length (unsealed l) ≡ 512
unfolding bytes_of label_bytes unsealed
length_unsealed l = refl

pub length_sealed : (l : Label) → length (sealed l) ≡ 512
unfolding bytes_of label_bytes sealed
length_sealed l = refl

pub before_sum : (l : Label) → take 508 (unsealed l) ≡ label_bytes l
unfolding bytes_of label_bytes unsealed
before_sum l = refl

pub with_sum : (l : Label) (x : ℕ) → with_number 4 (unsealed l) 508 x ≡ label_bytes l ++ bytes_of 4 x
unfolding bytes_of with_number label_bytes unsealed
with_sum l x = refl

-- the bytes u with their checksum x
pub copied : (l : Label) (u s : List ℕ) (x : ℕ) → u ≡ unsealed l → x ≡ crc_of (take 508 u) → s ≡ with_number 4 u 508 x → s ≡ sealed l
unfolding sealed
copied l u s x eu ex es =
    es ∙ ap₂ (λ (v : List ℕ) (y : ℕ). with_number 4 v 508 y) eu (ex ∙ ap (λ (v : List ℕ). crc_of (take 508 v)) eu ∙ ap crc_of (before_sum l))
    ∙ with_sum l (crc_of (label_bytes l))
