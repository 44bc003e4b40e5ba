-- What a rebuild makes of a stripe, by its contract alone, is byte by byte the position with its missing shards filled in: whatever the
-- survivors are, also where they contradict each other. Assumes nothing.
use Rattle.std.specs.Prelude.{◌≡◌, refl, Bool, true, false, cond, List, ℕ, ◌+◌, ◌*◌, ◌≤◌, ◌<◌, leb, length, Ok}
use Rattle.std.proofs.Common.{sym, ap, ◌∙◌, le-leb}
use Rattle.field.specs.Refusal.{Answer}
use Rattle.codeword.specs.Stripe.{InRange, Holds, Bytes, byte_at, has}
use Rattle.codeword.specs.Named.{has_index}
use Rattle.code.specs.Padded.{padded as looked_past}
use Rattle.code.specs.Stripes.{Rebuilt}
use Rattle.position.specs.Position.{padded, padded_few, solved, solved_blind, solved_is, filled, filled_off}

-- the shards that a rebuild doesn't look at are the same in both
pub same_padding : (k m : ℕ) (missing : List ℕ) → looked_past k m missing ≡ padded k m missing
unfolding padded looked_past
same_padding k m missing = refl

-- the missing shards are those of a stripe that holds and has the k least shards that are there, whatever the others hold
pub filled_found : (k m : ℕ) → InRange k m → (missing : List ℕ) → length missing ≤ m → (x y : ℕ → ℕ) → Bytes y → Holds k m y
    → ((r : ℕ) → r < k + m → has (padded k m missing) r ≡ false → x r ≡ y r) → (r : ℕ) → r < k + m → has missing r ≡ true → filled k m missing x r ≡ y r
unfolding filled
filled_found k m range missing few x y by h e r l t =
    ap (λ (b : Bool). cond b (cond (leb (length missing) m) (solved k m (padded k m missing) x r) 0) (x r)) t
    ∙ ap (λ (b : Bool). cond b (solved k m (padded k m missing) x r) 0) (le-leb (length missing) m few)
    ∙ solved_blind k m (padded k m missing) x y e r l
    ∙ solved_is k m range (padded k m missing) (padded_few k m missing) y y by by h (λ i g n. refl) r l

-- A REBUILD FILLS IN what the search finds
pub rebuilt_filled : (k m len : ℕ) → InRange k m → (missing : List ℕ) → length missing ≤ m → (a : Answer) (before after : List ℕ)
    → Rebuilt k m len missing a before after → a ≡ Ok tt
    → (r p : ℕ) → r < k + m → p < len → byte_at len after p r ≡ filled k m missing (byte_at len before p) r
rebuilt_filled k m len range missing few a before after w done r p hr hp = go (has missing r) refl
  where
    go : (b : Bool) → has missing r ≡ b → byte_at len after p r ≡ filled k m missing (byte_at len before p) r
    go false e = w.survivors done r hr e p hp ∙ sym (filled_off k m missing (byte_at len before p) r e)
    go true e =
        let y = w.goes_by done in
        let c = has_index missing r e in
        ap (byte_at len after p) (sym c.2) ∙ y.filled c.0 c.1 p hp ∙ ap (byte_at len y.stripe p) c.2
        ∙ sym (filled_found k m range missing few (byte_at len before p) (byte_at len y.stripe p) (λ i. y.bytes (i * len + p)) (y.sound p hp)
        (λ i hi n. y.agrees i hi (ap (λ (l : List ℕ). has l i) (same_padding k m missing) ∙ n) p hp) r hr e)
