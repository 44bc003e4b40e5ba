-- ONE CALL HAS ONE RESULT: the contracts leave no choice, where image and work area are bytes. Assumes nothing.
use Rattle.std.specs.Prelude.{◌≡◌, refl, List, ℕ, length}
use Rattle.std.proofs.Common.{sym, ap, ◌∙◌}
use Rattle.codeword.specs.Unique.{AllBytes}
use Rattle.disk.specs.Refusal.{Outcome}
use Rattle.requests.specs.Begun.{Begun, outcome_of, state_of}
use Rattle.stages.specs.declared.state.State.{State}
use Rattle.strips.specs.Whole.{Scrubbed}
use Rattle.blocks.specs.Read as blocks
use Rattle.blocks.specs.Write.{write_answer}
use Rattle.blind.specs.Once.{write_once, scrub_once, repair_once}
use Rattle.blind.specs.Calls.{Call, create, start, take_out, begin, rebuild_on, step, status, read, write, scrub, repair, began, found, Reply, reply, Makes}

pub makes_once : (c : Call) (s : State) (work img : List ℕ) → AllBytes img → AllBytes work → (x y : Reply) (a b : List ℕ) → Makes c s work img x a → Makes c s work img y b
    → AllBytes x.work → AllBytes y.work → (x ≡ y) × (a ≡ b)
makes_once (create k m c S shelf room) s work img hi hw x y a b p q bx by = (p.0 ∙ sym q.0, p.1 ∙ sym q.1)
makes_once (start g absent room) s work img hi hw x y a b p q bx by = (p.0 ∙ sym q.0, p.1 ∙ sym q.1)
makes_once (take_out d room) s work img hi hw x y a b p q bx by = (p.0 ∙ sym q.0, p.1 ∙ sym q.1)
makes_once (begin d room) s work img hi hw x y a b p q bx by = (p.0 ∙ sym q.0, p.1 ∙ sym q.1)
makes_once (rebuild_on batch room) s work img hi hw x y a b p q bx by = (p.0 ∙ sym q.0, p.1 ∙ sym q.1)
makes_once step s work img hi hw x y a b p q bx by = (p.0 ∙ sym q.0, p.1 ∙ sym q.1)
makes_once (status fields) s work img hi hw x y a b p q bx by = (p.0 ∙ sym q.0, p.1 ∙ sym q.1)
makes_once (read block buf) s work img hi hw x y a b p q bx by = (p.0 ∙ sym q.0, p.1 ∙ sym q.1)
makes_once (write block bytes) s work img hi hw x y a b p q bx by =
    let o : Outcome = write_answer s.now s.kind s.absent s.count img block (length bytes) (length work) in
    let e = write_once o s block bytes img work refl hi x.state y.state x.work y.work p.1 q.1 bx by in
    let f = p.0 ∙ sym q.0 in
    (λ i. record { said = f i; state = e.0 i; work = e.1 i }, p.2 ∙ sym q.2)
makes_once (scrub t) s work img hi hw x y a b p q bx by =
    let e = scrub_once s t (blocks.laid_over s t) img work hi hw p.0.0 q.0.0 p.0.2 q.0.2 in
    (p.0.1 ∙ ap (λ (v : Scrubbed). reply (found v) s work) e ∙ sym q.0.1, p.1 ∙ sym q.1)
makes_once (repair t) s work img hi hw x y a b p q bx by =
    let e = repair_once s t img work hi p.0.0 q.0.0 x.work y.work p.0.3 q.0.3 bx by in
    let f = p.0.1 ∙ ap (λ (z : Begun). began (outcome_of z)) e.0 ∙ sym q.0.1 in
    let h = p.0.2 ∙ ap (state_of s) e.0 ∙ sym q.0.2 in
    (λ i. record { said = f i; state = h i; work = e.1 i }, p.1 ∙ sym q.1)
