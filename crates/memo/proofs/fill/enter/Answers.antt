use native.Mathlib.Omega.{arith}
use Rattle.walk.proofs.Finding.{fit-chars}
use Rattle.memo.proofs.Ids.{value-fit}
use Rattle.memo.proofs.Entering.{entered-id, entered-none}
use Rattle.memo.proofs.fill.enter.Goals as goal

pub part_at-requires : goal.part_at-requires
part_at-requires c =
    omega (
      arith,
      fit-chars _ _
          (value-fit _ _ _ _ c.in-Ok.is c.first_id.ensures.fit).own,
    )

pub returns-in-Ok : goal.returns-in-Ok
returns-in-Ok c =
    λ next y. entered-id _ _ _ (c.first_id.ensures.same, c.first_id.ensures.fit) _
    _ _ y _ c.in-Ok.is _
    c.part_at.ensures
    c.requires.m_bound _
    c.enter_id.ensures

pub returns-in-Err : goal.returns-in-Err
returns-in-Err c = λ next y. entered-none _ _ _ (c.first_id.ensures.same, c.first_id.ensures.fit) _ _ _ y _ c.in-Err.is
