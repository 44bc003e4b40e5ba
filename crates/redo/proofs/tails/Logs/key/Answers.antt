-- By what was found.
use Rattle.std.proofs.Common.{rules, ◌≡◌, refl, ap, ◌∙◌}
use Rattle.std.proofs.lemmas.Option.{MatchOption-at_some, MatchOption-at_none}
use Rattle.std.specs.Prelude.{Some, None}
use Rattle.record.specs.Tail.{Found}
use Rattle.redo.specs.Decide.{key_of, stamp_found}
use Rattle.redo.proofs.tails.Logs.key.Goals as goal

pub returns : goal.returns
unfolding key_of
returns c = by c.find_tail.result refl ∙ ap stamp_found c.find_tail.ensures
  where
    by : (o : Found) → c.find_tail.result ≡ o → c.map_or.result ≡ stamp_found o
    by None e = MatchOption-at_none _ _ e c.map_or.ensures
    by (Some x) e = let ran = MatchOption-at_some _ _ x e c.map_or.ensures in search rules
