use Prim.Native.Nat.{◌-◌, ◌<◌}
use Rattle.std.proofs.Common.{IfSome}
use Rattle.std.specs.Option.{unwrap_or}
use Rattle.text.specs.Spaces.{space_by}
use Rattle.trimming.proofs.Pairing.{Paired}
use Rattle.trimming.proofs.nodes.trim_pairs.Given as goal

abbrev pub invariant-loop-behind : goal.invariant-loop-behind
invariant-loop-behind l = Paired l.characters l.attributes (space_by l.default) l.element l.count l.first l.second l.initial.nodes
    l.initial.text l.nodes l.text l.a (unwrap_or l.behind l.count) l.kept × IfSome l.behind (λ b. b < l.count)

abbrev pub decreases-loop-behind : goal.decreases-loop-behind
decreases-loop-behind l = l.count - unwrap_or l.behind l.count
