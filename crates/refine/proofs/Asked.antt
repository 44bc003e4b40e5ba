-- THE REQUESTS ARE THE PROGRAM'S: with masks that say what the protocol's tests say and labels that are the protocol's, what the
-- program remembers beside the state of a request that begins is what it remembers of that request. Assumes nothing.
use Rattle.std.specs.Prelude.{◌≡◌, Bool, true, false, not, ◌||◌, ℕ, ◌+◌, ◌*◌, ltb}
use Rattle.std.proofs.Common.{sym, ap, ◌∙◌, arith}
use Rattle.std.proofs.Math.Path.{ap₂, fun_ext}
use mathlib.Core.List.{List, []}
use Rattle.disk.specs.Mask.{in_mask, in_past}
use Rattle.protocol.specs.World.{Action}
use Rattle.protocol.specs.Label.{Label}
use Rattle.protocol.specs.Request.{outed}
use Rattle.protocol.specs.Program.{Own, Kind, doing, new_label, beyond, mask, created, asked_create, asked_start, relabelled, asked_out}
use Rattle.protocol.specs.Pairs.{no_sets}
use Rattle.codecs.specs.Sector.{Sector}
use Rattle.codecs.specs.Shelf.{Shelf, slots, size}
use Rattle.codecs.specs.Labels.{label_of}
use Rattle.codecs.proofs.Labels.{labels}
use Rattle.codecs.specs.Records.{counts}
use Rattle.codecs.proofs.Records.{records}
use Rattle.codecs.specs.Media.{stamps}
use Rattle.shards.proofs.Even.{any_code, any_sectors}
use Rattle.stages.specs.declared.state.State.{State}
use Rattle.stages.specs.declared.state.Kind as state
use Rattle.stages.specs.declared.state.Kind.TheVariants.{Creating, Starting, Labelling}
use Rattle.refine.specs.Disks.{cur_of}
use Rattle.refine.proofs.Disks.{seen_mask}
use Rattle.refine.specs.ToDo.{to_do}
use Rattle.refine.specs.Lists.{Says}
use Rattle.refine.proofs.Lists.{create_list, change_list}
use Rattle.refine.specs.StartList.{settles, Starts}
use Rattle.refine.proofs.StartList.{start_list}
use Rattle.refine.specs.Tied.{own_of, write_in, write_memory, memory_by, memory_of}
use Rattle.refine.specs.Asked.{absent_of}

-- a request that begins, with what it ends with
with_own : {k : Kind Sector} {l : List (Action Sector)} {o x y : Own} → x ≡ y → doing k l o x ≡ doing k l o y
with_own {k} {l} {o} e = ap (doing k l o) e

with_both : {k : Kind Sector} {l : List (Action Sector)} {x y : Own} → x ≡ y → doing k l x x ≡ doing k l y y
with_both {k} {l} e = ap (λ (o : Own). doing k l o o) e

module _ (z : Shelf) (s : State) (img : List ℕ) where
  remembers : (k : state.Kind) (l : List (Action Sector)) → s.kind ≡ k → to_do z s [] img ≡ l → memory_of z s [] img ≡ memory_by k z s (write_memory z (write_in z s []) s [] (cur_of z img)) l
  unfolding memory_of
  remembers k l e q = ap₂ (λ (x : state.Kind) (y : List (Action Sector)). memory_by x z s (write_memory z (write_in z s []) s [] (cur_of z img)) y) e q

  -- the epoch's first stamp
  own_is : (l : Label) → label_of z s.next ≡ l → s.epoch ≡ l.generation → s.count ≡ 0
      → own_of z s s.next ≡ record { now = l; absent = (absent_of z s img); epoch = l.generation; count = stamps.base l.generation }
  own_is l e p q =
      let c : s.epoch * counts + s.count ≡ l.generation * counts = omega (arith, ap (λ (x : ℕ). x * counts) p, q) in
      λ i. record { now = e i; absent = (absent_of z s img); epoch = p i; count = c i }

  module _ (at_first : s.cursor ≡ record { stage = 0; slot = 0; sector = 0 }) where
    -- CREATE
    pub create_asked : s.kind ≡ Creating → Says z s.marks.present (λ d. true) → label_of z s.next ≡ new_label (slots z) 1 → s.absent ≡ 0 → s.epoch ≡ 1 → s.count ≡ 0
        → memory_of z s [] img ≡ asked_create (size z) (no_sets (slots z)) (labels z) (records z) (any_code z) stamps (any_sectors z)
    create_asked kind says label_is none epoch count =
        let a : (absent_of z s img) ≡ beyond (slots z) (λ d. false) = fun_ext (λ d. ap (λ (b : Bool). b || not (ltb d (slots z))) (ap (λ (x : ℕ). in_mask x d) none ∙ in_past 0 0 d (omega arith) (omega arith))) in
        let o : own_of z s s.next ≡ created (size z) (no_sets (slots z)) (labels z) (records z) (any_code z) stamps (any_sectors z) =
        own_is (new_label (slots z) 1) label_is epoch count ∙ ap (λ (A : ℕ → Bool). record { now = new_label (slots z) 1; absent = A; epoch = 1; count = stamps.base 1 }) a in
        remembers Creating _ kind (create_list z s img at_first kind says label_is) ∙ with_both o

    -- TAKING SLOT d OUT
    pub out_asked : (d : ℕ) → s.kind ≡ Labelling → Says z s.marks.present (λ e. not ((absent_of z s img) e)) → label_of z s.next ≡ outed (slots z) (label_of z s.now) d
        → memory_of z s [] img ≡ asked_out (size z) (no_sets (slots z)) (labels z) (records z) (any_code z) stamps (any_sectors z) (own_of z s s.now) d
    out_asked d kind says label_is =
        let N = outed (slots z) (label_of z s.now) d in
        let o : own_of z s s.next ≡ relabelled (size z) (no_sets (slots z)) (labels z) (records z) (any_code z) stamps (any_sectors z) (own_of z s s.now) N =
        ap (λ (l : Label). record { now = l; absent = (absent_of z s img); epoch = s.epoch; count = (own_of z s s.now).count }) label_is in
        remembers Labelling _ kind (change_list z s img at_first (absent_of z s img) N kind says label_is) ∙ with_own o

  -- START-UP, by what is seen of the present slots
  pub start_asked : Starts z (absent_of z s img) img s → s.epoch ≡ (settles z (absent_of z s img) img).generation → s.count ≡ 0
      → memory_of z s [] img ≡ asked_start (size z) (no_sets (slots z)) (labels z) (records z) (any_code z) stamps (any_sectors z) (absent_of z s img) (mask (size z) (no_sets (slots z)) (labels z) (records z) (any_code z) stamps (any_sectors z) (absent_of z s img) (cur_of z img))
  start_asked h epoch count =
      remembers Starting _ h.kind (start_list z (absent_of z s img) img s h) ∙ with_both (own_is (settles z (absent_of z s img) img) h.next epoch count)
      ∙ ap (asked_start (size z) (no_sets (slots z)) (labels z) (records z) (any_code z) stamps (any_sectors z) (absent_of z s img)) (sym (seen_mask z (absent_of z s img) img))
