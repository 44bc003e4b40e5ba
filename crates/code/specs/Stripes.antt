-- What encode, rebuild, scrub and repair do to a stripe, in the words of document 01, sections 2 to 4. Assumes nothing.
use Rattle.std.specs.Prelude.{◌≡◌, true, false, List, [], ◌∷◌, ℕ, ◌+◌, ◌≤◌, ◌<◌, length, get_or, Ok, Err, Result}
use Rattle.field.specs.Refusal.{Answer}
use Rattle.field.specs.declared.Refusal.{Refusal}
use Rattle.field.specs.declared.Refusal.TheVariants.{BadShape}
use Rattle.codeword.specs.Stripe.{byte_at, Holds, Sound, AgreeOff, Agree}
use Rattle.codeword.specs.Unique.{AllBytes}
use Rattle.codeword.specs.Mend.{put}
use Rattle.code.specs.Padded.{padded}
use Rattle.code.specs.Shape.{shaped_of, encode_answer, rebuild_answer}
use Rattle.code.specs.declared.Verdict.{Verdict}
use Rattle.code.specs.declared.Verdict.TheVariants as verdict

-- what scrub and repair answer
abbrev pub Said : Type 0
Said = Result Verdict Refusal

-- encode: the data shards stay, and the stripe is sound
pub record Encoded (k m len : ℕ) (answer : Answer) (before after : List ℕ) : Type 0 where
  pub answers : answer ≡ encode_answer k m len (length before)
  pub same : length after ≡ length before
  pub refused : (x : Refusal) → answer ≡ Err x → after ≡ before
  pub kept : answer ≡ Ok tt → (r : ℕ) → r < k → (p : ℕ) → p < len → byte_at len after p r ≡ byte_at len before p r
  pub sound : answer ≡ Ok tt → Sound k m len after

-- rebuild, where survivors contradict each other: it goes by the k least of them. There is a sound stripe that has these k, and the
-- shards filled in are its shards (only one stripe is that: specs/Least.antt)
pub record GoesBy (k m len : ℕ) (missing before after : List ℕ) : Type 0 where
  pub stripe : List ℕ
  pub bytes : AllBytes stripe
  pub sound : Sound k m len stripe
  pub agrees : AgreeOff (k + m) len (padded k m missing) before stripe
  pub filled : (c : ℕ) → c < length missing → (p : ℕ) → p < len → byte_at len after p (get_or missing c 0) ≡ byte_at len stripe p (get_or missing c 0)

-- rebuild: the survivors stay, and every sound stripe that has these survivors is the result. With m missing the result is sound,
-- whatever the survivors are
pub record Rebuilt (k m len : ℕ) (missing : List ℕ) (answer : Answer) (before after : List ℕ) : Type 0 where
  pub answers : answer ≡ rebuild_answer k m len (length before) missing
  pub same : length after ≡ length before
  pub refused : (x : Refusal) → answer ≡ Err x → after ≡ before
  pub survivors : answer ≡ Ok tt → AgreeOff (k + m) len missing after before
  pub rebuilt : answer ≡ Ok tt → (o : List ℕ) → AllBytes o → Sound k m len o → AgreeOff (k + m) len missing before o → Agree (k + m) len after o
  pub sound : answer ≡ Ok tt → length missing ≡ m → Sound k m len after
  pub goes_by : answer ≡ Ok tt → GoesBy k m len missing before after

-- there is a content v for shard r, a byte for each position, with which all equations hold
abbrev pub Accuses : ℕ → ℕ → ℕ → List ℕ → ℕ → Type 0
Accuses k m len s r =
    (r < k + m) × ((v : ℕ → ℕ) × ((p : ℕ) → p < len → (v p < 256) × Holds k m (put r (v p) (byte_at len s p))))

-- scrub: sound; or not, and a shard is accused; or not, and none is
abbrev pub Says : ℕ → ℕ → ℕ → List ℕ → Said → Type 0
Says k m len s (Err x) = (shaped_of k m len (length s) ≡ false) × (x ≡ BadShape)
Says k m len s (Ok verdict.Sound) = (shaped_of k m len (length s) ≡ true) × Sound k m len s
Says k m len s (Ok (verdict.Accused r)) = (shaped_of k m len (length s) ≡ true) × (Sound k m len s → ⊥) × (2 ≤ m) × Accuses k m len s r
Says k m len s (Ok verdict.Unsound) =
    (shaped_of k m len (length s) ≡ true) × (Sound k m len s → ⊥) × (2 ≤ m → (r : ℕ) → Accuses k m len s r → ⊥)

-- repair: what scrub says of the stripe as it was; an accused shard, and nothing else, gets the content that makes the stripe sound
abbrev pub Mends : ℕ → ℕ → ℕ → Said → List ℕ → List ℕ → Type 0
Mends k m len (Err x) before after = after ≡ before
Mends k m len (Ok verdict.Sound) before after = after ≡ before
Mends k m len (Ok verdict.Unsound) before after = after ≡ before
Mends k m len (Ok (verdict.Accused r)) before after =
    (length after ≡ length before) × AgreeOff (k + m) len (r ∷ []) before after × Sound k m len after

pub record Repaired (k m len : ℕ) (v : Said) (before after : List ℕ) : Type 0 where
  pub says : Says k m len before v
  pub mends : Mends k m len v before after
