-- What a result says of the one that it was made of, where only its refusals were changed; and what it tells of another state.
-- Assumes nothing.
use Rattle.std.specs.Prelude.{◌≡◌, ℕ, Result, Ok, Err}
use Rattle.std.specs.Result.{MatchResult, IsErrAnd}
use Rattle.std.proofs.Math.Path.{refl, sym}
use Rattle.std.proofs.Common.{◌∙◌, subst}
use native.Mathlib.Omega.{arith}
use Rattle.disk.specs.declared.refusal.Refusal.{Refusal}
use Rattle.stages.specs.declared.state.State.{State}
use Rattle.stages.specs.declared.state.Stepped.{Stepped}
use Rattle.stages.specs.declared.state.Did.{Did}
use Rattle.stages.specs.declared.state.Did.TheVariants.{Put, Flush, Done}
use Rattle.stages.specs.Told.{answer_of, Told, told}
use Rattle.shelf.specs.Step.{by_answer, kept}

pub mapped_ok : {T : Type 0} (r o : Result T Refusal) (Q : Refusal → Refusal → Type 0) → MatchResult o (λ x. r ≡ Ok x) (λ e. IsErrAnd r (Q e)) → (x : T) → r ≡ Ok x → o ≡ Ok x
mapped_ok r (Ok y) Q h x e = sym h ∙ e
mapped_ok {T = T} r (Err y) Q h x e = absurd (subst (λ (z : Result T Refusal). IsErrAnd z (Q y)) e h)

pub mapped_err : {T : Type 0} (r o : Result T Refusal) (Q : Refusal → Refusal → Type 0) → MatchResult o (λ x. r ≡ Ok x) (λ e. IsErrAnd r (Q e)) → (w : Refusal) → r ≡ Err w
    → (e : Refusal) × (o ≡ Err e) × Q e w
mapped_err r (Ok y) Q h w e = absurd (let z : ◌≡◌ {A = ℕ} 0 1 = cc in omega arith)
mapped_err {T = T} r (Err y) Q h w e = (y, refl, subst (λ (z : Result T Refusal). IsErrAnd z (Q y)) e h)

-- a refusal tells of the state that it is told of
pub told_kept : (s t : State) (r : Result Stepped Refusal) → told s r ≡ kept s (told t r)
told_kept s t (Ok x) = by x.did
  where
    by : (d : Did) → ◌≡◌ {A = Told} (record { state = x.state; answer = answer_of d }) (by_answer (answer_of d) s (record { state = x.state; answer = answer_of d }))
    by (Put slot sector) = refl
    by (Flush slot) = refl
    by Done = refl
told_kept s t (Err why) = refl
