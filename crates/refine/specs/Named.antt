-- NO DISK EVER NAMES ANOTHER SHELF: where no sector of the disks is another shelf's label, whatever a cut leaves, none is after an
-- action of the protocol's program. Assumes nothing.
use Rattle.std.specs.Prelude.{◌≡◌, refl, Bool, cond, not, ◌||◌, ℕ, zero, suc, ◌+◌, ◌-◌, ◌*◌, ◌<◌, ◌/◌, ◌%◌, ◌^◌, ltb, Some}
use Rattle.std.proofs.Math.Path.{sym, ap, subst}
use Rattle.std.proofs.Common.{◌∙◌, pow-suc, arith, eq-eqb}
use Rattle.std.proofs.Math.Bool.{true, false}
use Rattle.std.proofs.lemmas.Bool.{false≢true}
use mathlib.Core.List.{List, [], ◌∷◌, ◌++◌}
use Rattle.std.proofs.Math.Dec.{eqb}
use Rattle.disk.specs.Number.{number_at, bytes_of}
use Rattle.disk.specs.Tests.{both}
use Rattle.label.specs.Bytes.{label_bytes, sealed}
use Rattle.label.specs.Valid.{label_at, decode_of}
use Rattle.label.specs.Newest.{same_shelf}
use Rattle.label.specs.declared.fields.Label as bytes
use Rattle.label.proofs.Laws.{decode_says, zeros_nothing}
use Rattle.protocol.specs.World.{Place, label, log, strip, slot, Image, update, update_cases, World, Action, put, flush, Sane, Always, always_put, always_flush}
use Rattle.protocol.specs.Slots.{from}
use Rattle.protocol.specs.Batch.{puts, flushes, Batch, actions, Each}
use Rattle.protocol.specs.Label.{Label, again, belief, copy, round, round_batch, prep, prep_batch, expel, expel_batch, last_side}
use Rattle.protocol.specs.Rebuild.{begun, wipe, wipe_batch, flushed_at_begin, expel_first}
use Rattle.protocol.specs.Redo.{redo}
use Rattle.protocol.specs.Startup.{M, L, late, level_to, again_to, last_to, rounds}
use Rattle.protocol.specs.Decide.{data_place, Touch, Looked, in_turn, settled, startup}
use Rattle.protocol.proofs.Decide.{strips_each, redo_each}
use Rattle.protocol.specs.Log.{Write, Belief}
use Rattle.protocol.specs.Write.{logged, log_batch, log_write, store}
use Rattle.protocol.specs.Request.{outed}
use Rattle.protocol.specs.Host.{rebuilt}
use Rattle.protocol.specs.Rebuild.{raised, healed, fill, fill_batch, filled}
use Rattle.protocol.specs.Program.{Own, creating, starting, logging, storing, labelling, Memory, nothing, idle, doing, step, new_label, beyond, flushed_first, told_to, back_in, asked_create, asked_start, asked_out, asked_begin, at_least_one, last_batch, asked_raise, asked_heal, asked_on}
use Rattle.protocol.specs.Machine.{effect}
use Rattle.protocol.specs.Even.{program_by}
use Rattle.protocol.specs.Pairs.{no_sets}
use Rattle.codecs.specs.Sector.{Sector}
use Rattle.codecs.proofs.Sector.{zeros}
use Rattle.codecs.specs.Shelf.{Shelf, slots, size, few_data, few_parity, short_strip, limits}
use Rattle.codecs.specs.Labels.{sector_of, fields_of, ours}
use Rattle.codecs.proofs.Labels.{encode_label, labels}
use Rattle.codecs.proofs.Records.{records}
use Rattle.codecs.specs.Media.{stamps}
use Rattle.shards.proofs.Even.{any_code, any_sectors}
use Rattle.refine.specs.Tied.{program_of}

-- ---- a sector that names no other shelf

-- what it says as a label in its place, if it says anything, is this shelf's
abbrev pub NamesIn : Shelf → Place → Sector → Type 0
NamesIn z (label d b) x = (a : bytes.Label) → decode_of x.bytes d (sector_of b) ≡ Some a → ours z a ≡ true
NamesIn z (log d j) x = Unit {0}
NamesIn z (strip d t j) x = Unit {0}

-- so everywhere
unfoldable pub Named : Shelf → Image Sector → Type 0
Named z f = (k : Place) → NamesIn z k (f k)

-- ---- the shelf's own labels

abbrev value : ℕ → ℕ → ℕ
value zero x = 0
value (suc w) x = x % 256 + 256 * value w (x / 256)

value_back : (w x : ℕ) → x < 256 ^ w → value w x ≡ x
value_back zero x h = omega arith
value_back (suc w) x h = let k : x / 256 < 256 ^ w = omega (arith, pow-suc 256 w) in omega (arith, value_back w (x / 256) k)

-- the five numbers that name the shelf, as they are read
named_read : (a : bytes.Label) → ((label_at (sealed a)).k ≡ a.k % 256) × ((label_at (sealed a)).m ≡ a.m % 256) × ((label_at (sealed a)).c ≡ a.c % 256) × ((label_at (sealed a)).sectors ≡ value 4 a.sectors) × ((label_at (sealed a)).shelf ≡ value 8 a.shelf)
unfolding bytes_of number_at label_bytes sealed label_at
named_read a = (refl, refl, refl, refl, refl)

module _ (z : Shelf) where
  sealed_ours : (d : ℕ) (l : Label) → ours z (label_at (sealed (fields_of z d l))) ≡ true
  unfolding same_shelf
  sealed_ours d l =
      let r = named_read (fields_of z d l) in
      let x = label_at (sealed (fields_of z d l)) in
      let k : z.k ≡ x.k = omega (arith, few_data z, r.0) in
      let m : z.m ≡ x.m = omega (arith, few_parity z, r.1) in
      let c : z.c ≡ x.c = omega (arith, short_strip z, r.2) in
      let S : z.sectors ≡ x.sectors = sym (r.3 ∙ value_back 4 z.sectors (omega (arith, (limits z).0.most))) in
      let n : z.number ≡ x.shelf = sym (r.4 ∙ value_back 8 z.number (omega (arith, z.number_fits))) in
      both (eqb z.k x.k) _ (eq-eqb z.k x.k k)
      (both (eqb z.m x.m) _ (eq-eqb z.m x.m m)
      (both (eqb z.c x.c) _ (eq-eqb z.c x.c c)
      (both (eqb z.sectors x.sectors) _ (eq-eqb z.sectors x.sectors S) (eq-eqb z.number x.shelf n))))

  told_named : (l : Label) (k : Place) → NamesIn z k (encode_label z (slot k) l)
  unfolding encode_label
  told_named l (label d b) = λ a e. ap (ours z) (decode_says (sealed (fields_of z d l)) d (sector_of b) a e).is ∙ sealed_ours d l
  told_named l (log d j) = tt
  told_named l (strip d t j) = tt

  pub zeros_named : (k : Place) → NamesIn z k zeros
  zeros_named (label d b) = λ a e. absurd (let i : ◌≡◌ {A = ℕ} 0 1 = cc (zeros_nothing d (sector_of b)) in omega arith)
  zeros_named (log d j) = tt
  zeros_named (strip d t j) = tt

  named_put : (f : Image Sector) (k : Place) (v : Sector) → NamesIn z k v → Named z f → Named z (update f k v)
  unfolding Named
  named_put f k v h o l = update_cases f k v (NamesIn z l) l (λ q. subst (λ (x : Place). NamesIn z x v) (sym q) h) (o l)

  -- ---- what is left to do names no other shelf

  abbrev pub Names : List (Action Sector) → Type 0
  Names [] = Unit {0}
  Names (put k v ∷ l) = NamesIn z k v × Names l
  Names (flush d ∷ l) = Names l

  names_append : (l r : List (Action Sector)) → Names l → Names r → Names (l ++ r)
  names_append [] r a b = b
  names_append (put k v ∷ l) r a b = (a.0, names_append l r a.1 b)
  names_append (flush d ∷ l) r a b = names_append l r a b

  names_flushes : (ds : List ℕ) → Names (flushes ds)
  names_flushes [] = tt
  names_flushes (d ∷ ds) = names_flushes ds

  names_puts : (v : Place → Sector) (ks : List Place) → ((k : Place) → NamesIn z k (v k)) → Names (puts v ks)
  names_puts v [] h = tt
  names_puts v (k ∷ ks) h = (h k, names_puts v ks h)

  -- a list that puts no label
  names_data : (T : Place → Type 0) (U : ℕ → Type 0) → ((k : Place) → T k → data_place k ≡ true) → (l : List (Action Sector)) → Each T U l → Names l
  names_data T U h [] e = tt
  names_data T U h (put k v ∷ l) e = (one k (h k e.0), names_data T U h l e.1)
    where
      one : (k : Place) → data_place k ≡ true → NamesIn z k v
      one (label d b) q = absurd (false≢true q)
      one (log d j) q = tt
      one (strip d t j) q = tt
  names_data T U h (flush d ∷ l) e = names_data T U h l e.1

  names_batch : (b : Batch Sector) → ((k : Place) → NamesIn z k (b.value k)) → Names (actions b)
  names_batch b h = names_append (puts b.value b.places) (flushes b.flushed) (names_puts b.value b.places h) (names_flushes b.flushed)

  names_round : (l : Label) (ds : List ℕ) → Names (round (labels z) l ds)
  unfolding round_batch
  names_round l ds = names_batch (round_batch (labels z) l ds) (told_named l)

  names_prep : (f0 : Image Sector) (g : ℕ) (l : Label) (ds : List ℕ) → Names (prep (labels z) f0 g l ds)
  unfolding prep_batch
  names_prep f0 g l ds =
      names_batch (prep_batch (labels z) f0 g l ds)
      (λ k. go k (ltb 0 (copy (labels z) f0 (slot k) ((labels z).side (suc g))).generation || eqb (copy (labels z) f0 (slot k) ((labels z).side g)).generation 0))
    where
      go : (k : Place) (b : Bool) → NamesIn z k (cond b zeros (encode_label z (slot k) (again l g)))
      go k true = zeros_named k
      go k false = told_named (again l g) k

  names_startup : (A : ℕ → Bool) (f0 : Image Sector) → Names (startup (size z) (labels z) (records z) A f0)
  unfolding startup in_turn rounds Touch
  names_startup A f0 =
      let m = M (size z) (labels z) A f0 in
      let l = L (size z) (labels z) A f0 in
      let l2 = settled (size z) (labels z) (records z) A f0 in
      let late_ones = late (size z) (labels z) A f0 in
      let A1 = round (labels z) l (level_to (size z) (labels z) A f0) in
      let A2 = round (labels z) (again l (suc m)) (again_to (size z) (labels z) A f0) in
      let A3 = round (labels z) l2 (last_to (size z) (labels z) A f0) in
      let A4 = prep (labels z) f0 (suc m) l2 late_ones in
      let A5 = round (labels z) l2 late_ones in
      let B = belief (size z) l2 in
      names_append (A1 ++ (A2 ++ (A3 ++ (A4 ++ A5)))) (redo (records z) B f0)
      (names_append A1 (A2 ++ (A3 ++ (A4 ++ A5))) (names_round l (level_to (size z) (labels z) A f0))
      (names_append A2 (A3 ++ (A4 ++ A5)) (names_round (again l (suc m)) (again_to (size z) (labels z) A f0))
      (names_append A3 (A4 ++ A5) (names_round l2 (last_to (size z) (labels z) A f0))
      (names_append A4 A5 (names_prep f0 (suc m) l2 late_ones) (names_round l2 late_ones)))))
      (names_data (Touch B) (Looked B) (λ k t. t.0) (redo (records z) B f0) (redo_each (records z) B f0))

  -- ---- the program

  abbrev pub left_in : Memory Sector → List (Action Sector)
  left_in nothing = []
  left_in (idle o) = []
  left_in (doing k l o o') = l

  pub create_names : Names (left_in (asked_create (size z) (no_sets (slots z)) (labels z) (records z) (any_code z) stamps (any_sectors z)))
  create_names =
      let ds = flushed_first (size z) (no_sets (slots z)) (labels z) (records z) (any_code z) stamps (any_sectors z) (beyond (slots z) (λ d. false)) in
      names_append (flushes ds) (round (labels z) (new_label (slots z) 1) (from 0 (slots z))) (names_flushes ds) (names_round (new_label (slots z) 1) (from 0 (slots z)))

  pub start_names : (A : ℕ → Bool) (f0 : Image Sector) → Names (left_in (asked_start (size z) (no_sets (slots z)) (labels z) (records z) (any_code z) stamps (any_sectors z) A f0))
  start_names A f0 = names_append (flushes (flushed_first (size z) (no_sets (slots z)) (labels z) (records z) (any_code z) stamps (any_sectors z) A)) (startup (size z) (labels z) (records z) A f0) (names_flushes (flushed_first (size z) (no_sets (slots z)) (labels z) (records z) (any_code z) stamps (any_sectors z) A)) (names_startup A f0)

  pub out_names : (o : Own) (d : ℕ) → Names (left_in (asked_out (size z) (no_sets (slots z)) (labels z) (records z) (any_code z) stamps (any_sectors z) o d))
  out_names o d = names_round (outed (slots z) o.now d) (told_to (size z) (no_sets (slots z)) (labels z) (records z) (any_code z) stamps (any_sectors z) o.absent)

  names_expel : (f0 : Image Sector) (b : Bool) (ds : List ℕ) → Names (expel (labels z) f0 b ds)
  unfolding expel_batch
  names_expel f0 b ds = names_batch (expel_batch (labels z) f0 b ds) zeros_named

  names_wipe : (d : ℕ) → Names (wipe (records z) d)
  unfolding wipe_batch
  names_wipe d = names_batch (wipe_batch (records z) d) zeros_named

  pub begin_names : (o : Own) (f0 : Image Sector) (d : ℕ) → Names (left_in (asked_begin (size z) (no_sets (slots z)) (labels z) (records z) (any_code z) stamps (any_sectors z) o f0 d))
  unfolding expel_first
  begin_names o f0 d =
      let S = last_side (labels z) f0 d in
      let X1 = expel (labels z) f0 (not S) (d ∷ []) in
      let X2 = expel (labels z) f0 S (d ∷ []) in
      let A1 = wipe (records z) d in
      let A2 = prep (labels z) f0 o.now.generation o.now (d ∷ []) in
      let ds = told_to (size z) (no_sets (slots z)) (labels z) (records z) (any_code z) stamps (any_sectors z) (back_in (size z) (no_sets (slots z)) (labels z) (records z) (any_code z) stamps (any_sectors z) o.absent d) in
      let A3 = round (labels z) (begun o.now d) ds in
      names_append (flushes (flushed_at_begin (records z) d)) ((X1 ++ X2) ++ (A1 ++ (A2 ++ A3))) (names_flushes (flushed_at_begin (records z) d))
      (names_append (X1 ++ X2) (A1 ++ (A2 ++ A3)) (names_append X1 X2 (names_expel f0 (not S) (d ∷ [])) (names_expel f0 S (d ∷ [])))
      (names_append A1 (A2 ++ A3) (names_wipe d) (names_append A2 A3 (names_prep f0 o.now.generation o.now (d ∷ [])) (names_round (begun o.now d) ds))))

  names_fill : (Q : Label) (more : ℕ) (v : ℕ → ℕ → Sector) → Names (fill (records z) Q more v)
  unfolding fill_batch
  names_fill Q more v = names_batch (fill_batch (records z) Q more v) go
    where
      go : (k : Place) → NamesIn z k (filled (records z) v k)
      go (label d b) = zeros_named (label d b)
      go (log d j) = tt
      go (strip d t j) = tt

  names_on : (Q N : Label) (more : ℕ) (v : ℕ → ℕ → Sector) (ds : List ℕ) → Names (fill (records z) Q more v ++ round (labels z) N ds)
  names_on Q N more v ds = names_append (fill (records z) Q more v) (round (labels z) N ds) (names_fill Q more v) (names_round N ds)

  pub on_names : (o : Own) (f : Image Sector) (b : ℕ) → Names (left_in (asked_on (size z) (no_sets (slots z)) (labels z) (records z) (any_code z) stamps (any_sectors z) o f b))
  on_names o f b = by (last_batch (size z) (no_sets (slots z)) (labels z) (records z) (any_code z) stamps (any_sectors z) o b)
    where
      more : ℕ
      more = at_least_one (size z) (no_sets (slots z)) (labels z) (records z) (any_code z) stamps (any_sectors z) b

      ds : List ℕ
      ds = told_to (size z) (no_sets (slots z)) (labels z) (records z) (any_code z) stamps (any_sectors z) o.absent

      v : ℕ → ℕ → Sector
      v = rebuilt (size z) (no_sets (slots z)) (records z) (any_code z) o.now f o.now.rebuilding

      heal : Memory Sector
      heal = asked_heal (size z) (no_sets (slots z)) (labels z) (records z) (any_code z) stamps (any_sectors z) o f

      raise : Memory Sector
      raise = asked_raise (size z) (no_sets (slots z)) (labels z) (records z) (any_code z) stamps (any_sectors z) o f more

      by : (x : Bool) → Names (left_in (cond x heal raise))
      by true = names_on o.now (healed (slots z) o.now) ((size z).T - o.now.mark) v ds
      by false = names_on o.now (raised o.now (o.now.mark + more)) more v ds

  names_store : (x : Write Sector) (o : Own) → Names (store (records z) (belief (size z) o.now) x.stripe x.changes x.new)
  unfolding Touch
  names_store x o =
      let B = belief (size z) o.now in
      names_data (Touch B) (Looked B) (λ k t. t.0) (store (records z) B x.stripe x.changes x.new) (strips_each (records z) B x.stripe x.changes x.new)

  pub names_log : (B : Belief) (σ : ℕ) (x : Write Sector) → Names (log_write (records z) B σ x)
  unfolding log_batch
  names_log B σ x = names_batch (log_batch (records z) B σ x) go
    where
      go : (k : Place) → NamesIn z k (logged (records z) σ x k)
      go (label d b) = zeros_named (label d b)
      go (log d j) = tt
      go (strip d t j) = tt

  -- A STEP
  pub step_names : (m : Memory Sector) (f : Image Sector) (w : World Sector) → Sane w → Always w (Named z) → Names (left_in m)
      → Always (effect w (program_of z m f step).1) (Named z) × Names (left_in (program_of z m f step).0)
  unfolding program_by
  step_names nothing f w sane h n = (h, tt)
  step_names (idle o) f w sane h n = (h, tt)
  step_names (doing k (put x v ∷ l) o o') f w sane h n = (always_put (Named z) w x v sane h (λ g. named_put g x v n.0), n.1)
  step_names (doing k (flush d ∷ l) o o') f w sane h n = (always_flush (Named z) w d h, n)
  step_names (doing creating [] o o') f w sane h n = (h, tt)
  step_names (doing starting [] o o') f w sane h n = (h, tt)
  step_names (doing (logging x) [] o o') f w sane h n = (h, names_store x o)
  step_names (doing (storing x) [] o o') f w sane h n = (h, tt)
  step_names (doing labelling [] o o') f w sane h n = (h, tt)

-- ---- so the label that a survey goes by is this shelf's

-- one of the two copies
abbrev pub side : (s : ℕ) → s < 2 → (b : Bool) × (sector_of b ≡ s)
side zero h = (false, refl)
side (suc zero) h = (true, refl)
side (suc (suc s)) h = absurd (omega arith)
