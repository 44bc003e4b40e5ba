-- READ, WRITE AND SCRUB on images that are alike. Assumes nothing.
use Rattle.std.specs.Prelude.{◌≡◌, refl, List, [], length, Ok, Err}
use Rattle.std.proofs.Common.{sym, ap, subst, ◌∙◌, arith}
use Prim.Native.Nat.{ℕ, ◌+◌, ◌-◌, ◌*◌, ◌/◌, ◌%◌}
use Rattle.code.specs.Stripes.{Says}
use Rattle.disk.specs.Limits.{sector_bytes}
use Rattle.disk.specs.declared.geometry.Geometry.{Geometry}
use Rattle.disk.specs.Refusal.{Outcome}
use Rattle.label.specs.Fields.{geometry_of}
use Rattle.label.proofs.Fits.{fits_says}
use Rattle.label.specs.declared.fields.Label.{Label}
use Rattle.requests.specs.Begun.{first}
use Rattle.requests.specs.Ready.{is_idle}
use Rattle.stages.specs.declared.state.State.{State}
use Rattle.strips.specs.Seen.{shard_bytes, shown_byte}
use Rattle.strips.specs.Laws.{listed_ext}
use Rattle.strips.specs.Whole.{stripe_seen, Restored}
use Rattle.strips.specs.Whole.{Scrubbed}
use Rattle.blocks.specs.Slots.{there}
use Rattle.blocks.specs.Answers.{block_answer}
use Rattle.blocks.specs.Read.{laid_over, block_shown, half_of, shown_of, read_answer, after_read, Shows, shows_block, read_done}
use Rattle.blocks.specs.Write.{stamp_left, write_answer, AfterWrite, write_done}
use Rattle.blocks.specs.Scrub.{scrub_answer, SaysOf, ScrubbedBy, scrub_done}
use Rattle.blind.specs.Alike.{Alike}
use Rattle.blind.specs.Shown.{there_dark, row_alike, shown_alike}
use Rattle.blind.specs.Start.{ready_alike}

-- ---- read

module _ (s : State) (block : ℕ) (buf work x y : List ℕ) (h : Alike (geometry_of s.now) s.absent x y) where
  pub read_same : read_answer s.now s.kind s.absent block (length x) (length buf) (length work)
      ≡ read_answer s.now s.kind s.absent block (length y) (length buf) (length work)
  read_same = ap (λ (n : ℕ). read_answer s.now s.kind s.absent block n (length buf) (length work)) h.lengths

  shown_same : Shows s.now s.absent x work block buf → (over : ℕ) → shown_of s.now s.absent over x work block ≡ shown_of s.now s.absent over y work block
  unfolding shown_of block_shown
  shown_same w over =
      let l : Label = s.now in
      let g : Geometry = geometry_of l in
      let t : ℕ = block / l.k in
      let z = shows_block l s.absent x work block buf w in
      listed_ext (shard_bytes g) (shown_byte g l.k x (there g l s.absent t) over (half_of g work) t (block % l.k))
      (shown_byte g l.k y (there g l s.absent t) over (half_of g work) t (block % l.k))
      (λ q hq. shown_alike g s.absent x y h (fits_says l w.fits).range (there g l s.absent t) (there_dark g l s.absent t) t z.stripe l.k (omega arith)
      over (half_of g work) (block % l.k) q z.shard hq)

  -- A READ answers the same, and gives the same bytes
  pub read_blind : (o : Outcome) → o ≡ read_answer s.now s.kind s.absent block (length x) (length buf) (length work)
      → after_read o s block x work buf ≡ after_read o s block y work buf
  read_blind (Ok tt) e = shown_same (read_done s.now s.kind s.absent block x work buf (sym e)) (laid_over s (block / s.now.k))
  read_blind (Err why) e = refl

-- ---- write

module _ (s : State) (block : ℕ) (bytes work x y : List ℕ) (h : Alike (geometry_of s.now) s.absent x y) where
  pub write_same : write_answer s.now s.kind s.absent s.count x block (length bytes) (length work)
      ≡ write_answer s.now s.kind s.absent s.count y block (length bytes) (length work)
  write_same = ap (λ (o : Outcome). first o (block_answer s.now s.absent (is_idle s.kind) (stamp_left s.count) block (length bytes) (length work))) (ready_alike s x y h)

  -- A WRITE answers the same, and what it may hand out and leave in the work area on the one image it may on the other
  pub write_blind : (o : Outcome) → o ≡ write_answer s.now s.kind s.absent s.count x block (length bytes) (length work)
      → (s' : State) (after : List ℕ) → AfterWrite o s block bytes x work s' after → AfterWrite o s block bytes y work s' after
  write_blind (Ok tt) e s' after w =
      let l : Label = s.now in
      let g : Geometry = geometry_of l in
      let t : ℕ = block / l.k in
      let slots : ℕ = there g l s.absent t in
      let u = (write_done l s.kind s.absent s.count x block bytes work (sym e)).0 in
      let z = shows_block l s.absent x work block bytes u in
      let p = w.prepared.stripe in
      let q : stripe_seen g x slots t ≡ stripe_seen g y slots t =
      row_alike g s.absent x y h (fits_says l u.fits).range slots (there_dark g l s.absent t) t z.stripe 0 [] in
      record {
        all = w.all;
        prepared =
            record {
              stripe =
                  record {
                    stripe = p.stripe;
                    restored = subst (λ (v : List ℕ). Restored g.n l.k t slots (shard_bytes g) w.all v p.stripe) q p.restored;
                    answer = p.answer;
                    encoded = p.encoded;
                  };
              rest = w.prepared.rest;
            };
        becomes = w.becomes;
      }
  write_blind (Err why) e s' after w = w

-- ---- scrub

module _ (s : State) (t : ℕ) (work x y : List ℕ) (h : Alike (geometry_of s.now) s.absent x y) where
  -- A SCRUB may say of the one image what it may say of the other
  pub scrub_blind : (r : Scrubbed)
      → ScrubbedBy (scrub_answer s.now s.kind s.absent t (length x) (length work)) (SaysOf s.now s.absent (laid_over s t) x work t) r
      → ScrubbedBy (scrub_answer s.now s.kind s.absent t (length y) (length work)) (SaysOf s.now s.absent (laid_over s t) y work t) r
  scrub_blind (Ok v) p =
      let l : Label = s.now in
      let g : Geometry = geometry_of l in
      let u = (scrub_done l s.kind s.absent t x work p.0).lies in (
        ap (λ (n : ℕ). scrub_answer l s.kind s.absent t n (length work)) (sym h.lengths) ∙ p.0,
        subst (λ (row : List ℕ). Says l.k (l.k + l.m - l.k) (l.c * sector_bytes) row (Ok v))
            (row_alike g s.absent x y h (fits_says l u.fits).range (there g l s.absent t) (there_dark g l s.absent t) t u.stripe (laid_over s t) (half_of g work)) p.1,
      )
  scrub_blind (Err why) p = ap (λ (n : ℕ). scrub_answer s.now s.kind s.absent t n (length work)) (sym h.lengths) ∙ p
