use native.Mathlib.Omega.{arith}
use Rattle.walk.proofs.Finding.{fit-chars}
use Rattle.links.proofs.Linking.{ok-is, err-is, value-fit, leading-none, leading-found, leading-other, leading-nowhere}
use Rattle.links.proofs.link.leading_id.Goals as goal

pub returns-in_err-v-clause-same : goal.returns-in_err-v-clause-same
returns-in_err-v-clause-same c =
    let none = err-is _ _ c.ok.ensures.value c.in_err-v.was in
    rw c.from_residual.ensures (leading-none _ c.args.e _ (c.first_id.ensures.same, c.first_id.ensures.fit) _ none.1)

pub part_at-requires : goal.part_at-requires
part_at-requires c =
    let held = value-fit _ _ _ _ (ok-is _ _ _ c.ok.ensures.value c.in_ok-v.was) c.first_id.ensures.fit in
    omega (arith, fit-chars _ _ held.own)

pub returns-in_err-f-clause-same : goal.returns-in_err-f-clause-same
returns-in_err-f-clause-same c =
    rw c.from_residual-in_err-f.ensures (leading-nowhere _ c.args.e _ (c.first_id.ensures.same, c.first_id.ensures.fit) _
    (ok-is _ _ _ c.ok.ensures.value c.in_ok-v.was) _ c.part_at.ensures _ c.find.ensures.same c.in_err-f.was)

pub returns-then-f-e : goal.returns-then-f-e
returns-then-f-e c =
    let own = ok-is _ _ _ c.ok.ensures.value c.in_ok-v.was in
    let held = value-fit _ _ _ _ own c.first_id.ensures.fit in record {
      same = leading-found _ c.args.e _ (c.first_id.ensures.same, c.first_id.ensures.fit) _ own _ c.part_at.ensures _
          c.find.ensures.same _ c.in_ok-f.was c.if-f-e.true;
      fit = omega (arith, fit-chars _ _ held.own);
    }

pub returns-clause-same : goal.returns-clause-same
returns-clause-same c =
    leading-other _ c.args.e _ (c.first_id.ensures.same, c.first_id.ensures.fit) _
    (ok-is _ _ _ c.ok.ensures.value c.in_ok-v.was) _ c.part_at.ensures _ c.find.ensures.same _ c.in_ok-f.was c.if-f-e.false
