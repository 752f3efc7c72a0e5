use native.Mathlib.Omega.{arith}
use mathlib.Core.Path.{sym, refl, ◌∙◌}
use Rattle.memo.proofs.Filling.{ready-near, passed-near, passed-closed, filling-closed, ready-new, passed-new, nodes-inside, at_left}
use Rattle.memo.proofs.Filling.{spaced-still, set_long}
use Rattle.memo.proofs.fill.pass_named.Goals as goal

pub returns-then-spacing-eq0 : goal.returns-then-spacing-eq0
returns-then-spacing-eq0 c =
    record {
      long = refl;
      nodes = nodes-inside _ c.args.e
          c.requires.standing;
      filling = passed-closed _ _ _ _ _ _ c.requires.filling
          (sym c.spacing.ensures ∙ c.if-spacing-eq0.true);
    }

pub overflow_sub-next : goal.overflow_sub-next
overflow_sub-next c = omega (arith, c.requires.filling.some c.if-left-gt0.true)

pub returns-then-left-gt0 : goal.returns-then-left-gt0
returns-then-left-gt0 c =
    record {
      long = (c.enter-place.ensures _
          (ready-near _ _ _ _
          c.args.e
          c.requires.filling
          c.if-left-gt0.true
          c.requires.standing)).kept.long;
      nodes = (c.enter-place.ensures _
          (ready-near _ _ _ _
          c.args.e
          c.requires.filling
          c.if-left-gt0.true
          c.requires.standing)).nodes;
      filling = passed-near _ _ _ _
          c.args.e
          c.requires.filling
          c.if-left-gt0.true _ _
          (c.enter-place.ensures _ (ready-near _ _ _ _
          c.args.e
          c.requires.filling
          c.if-left-gt0.true
          c.requires.standing));
    }

pub returns-then-not-has_room : goal.returns-then-not-has_room
returns-then-not-has_room c =
    record {
      long = set_long c.args.slots.now _ c.set_spacing.ensures;
      nodes = nodes-inside _ c.args.e
          c.requires.standing;
      filling = filling-closed _ _ _ _ _ c.requires.filling _ c.set_spacing.ensures _;
    }

pub put_mark-requires : goal.put_mark-requires
put_mark-requires c = c.has_room.ensures (c.if-not-has_room.false)

pub enter-place-requires-2 : goal.enter-place-requires-2
enter-place-requires-2 c =
    record {
      standing = c.requires.standing;
      m_bound = (c.has_room.ensures
          (c.if-not-has_room.false)).few;
    }

pub overflow_sub-result-2 : goal.overflow_sub-result-2
overflow_sub-result-2 c =
    omega (
      arith,
      c.spacing-most.ensures,
      spaced-still _ _ _ _ c.put_mark.ensures
          (λ e. c.if-spacing-eq0.false (c.spacing.ensures ∙ e)),
    )

pub returns : goal.returns
returns c =
    record {
      long = (c.enter-place-2.ensures _
          (ready-new _ _ _ c.args.e
          (at_left _ _ _ _ _ c.requires.filling
          c.if-left-gt0.false) c.requires.standing
          (c.has_room.ensures
          (c.if-not-has_room.false)) _
          c.put_mark.ensures)).kept.long
          ∙ c.put_mark.ensures.apart.long;
      nodes = (c.enter-place-2.ensures _
          (ready-new _ _ _ c.args.e
          (at_left _ _ _ _ _ c.requires.filling
          c.if-left-gt0.false) c.requires.standing
          (c.has_room.ensures
          (c.if-not-has_room.false)) _
          c.put_mark.ensures)).nodes;
      filling = passed-new _ _ _ c.args.e
          (at_left _ _ _ _ _ c.requires.filling
          c.if-left-gt0.false) c.requires.standing
          (c.has_room.ensures
          (c.if-not-has_room.false)) _
          c.put_mark.ensures _
          c.spacing-most.ensures
          (omega (
            arith,
            c.spacing-most.ensures,
            spaced-still _ _ _ _ c.put_mark.ensures
                (λ e. c.if-spacing-eq0.false (c.spacing.ensures ∙ e)),
          )) _ _
          (c.enter-place-2.ensures _ (ready-new _ _ _ c.args.e
          (at_left _ _ _ _ _ c.requires.filling
          c.if-left-gt0.false) c.requires.standing
          (c.has_room.ensures
          (c.if-not-has_room.false)) _
          c.put_mark.ensures));
    }
