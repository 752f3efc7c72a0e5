use native.Mathlib.Omega.{arith}
use Rattle.text.specs.Spaces.{space_in}
use Rattle.text.proofs.Appending.{put-size, put-most}
use Rattle.text.proofs.append.put_text.Goals as goal

pub overflow_cast-n : goal.overflow_cast-n
overflow_cast-n c =
    omega (
      arith,
      put-size (space_in c.args.space)
          c.args.characters.now
          c.args.start
          c.args.size
          c.requires.size_in_bounds _
          c.trim_text-done.ensures.answer,
      put-most (space_in c.args.space)
          c.args.characters.now
          c.args.start
          c.args.size
          c.requires.size_in_bounds _
          c.trim_text-done.ensures.answer,
    )

pub overflow_add-result : goal.overflow_add-result
overflow_add-result c =
    omega (
      arith,
      put-size (space_in c.args.space)
          c.args.characters.now
          c.args.start
          c.args.size
          c.requires.size_in_bounds _
          c.trim_text-done.ensures.answer,
      put-most (space_in c.args.space)
          c.args.characters.now
          c.args.start
          c.args.size
          c.requires.size_in_bounds _
          c.trim_text-done.ensures.answer,
    )
