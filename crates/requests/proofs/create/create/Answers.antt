-- `create` meets its contract. What is accepted has numbers of a shelf. Assumes nothing.
use Rattle.std.proofs.Common.{sym, ◌∙◌}
use Rattle.requests.specs.Accepted.{shelf_shards, create_done}
use Rattle.requests.proofs.create.create.Goals as goal

pub new_shelf-requires : goal.new_shelf-requires
new_shelf-requires c =
    let a = c.args in
    let e = sym c.create_answer.ensures ∙ c.in_ok-create_answer.was in
    let h = shelf_shards _ _ _ _ _ (create_done a.k a.m a.c a.sectors a.image.now a.room e).0 in
    (h.k_most_lem, h.m_most_lem)
