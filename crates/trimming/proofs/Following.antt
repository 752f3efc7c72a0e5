-- One turn of the model's program after another. Assumes nothing.
use Prim.Native.Nat.{ℕ}
use mathlib.Core.Path.{◌≡◌, refl, ap, ◌∙◌}
use mathlib.Core.Bool.{Bool, true, false}
use mathlib.Core.List.{List, ◌∷◌}
use mathlib.Core.Option.{Option, none, some}
use Rattle.std.specs.Prelude as Std
use Rattle.std.specs.Prelude.{Some, None, unwrap_or}
use lib.Dec.{eqb, ltb}
use Rattle.model.specs.Base.{pick, given}
use Rattle.model.specs.Utf8.{is_blank}
use Rattle.model.specs.Tables.{Tree, text_of}
use Rattle.model.specs.Text.{XmlSpace, look, run, TextNode, is_default, depth_below}
use Rattle.model.specs.Text.{pair, stands_for, is_nil, pairs}
use Rattle.edges.specs.declared.Pair.{Pair}
use Rattle.text.specs.Spaces.{space_at}
use Rattle.edges.specs.Pairs.{Ranged, size_of, after_pair}
use Rattle.trimming.specs.Nodes.{node_at, stands_by, kept_behind}
use Rattle.edges.proofs.Programs.{run-pair}
use Rattle.edges.proofs.Looking.{empty-is}

module _ (chars : List ℕ) (t₀ : Tree) (w : XmlSpace) (e : ℕ) where
  -- The text that is kept, as the program has it.
  abbrev pub kept_node : Std.Option ℕ → Option TextNode
  kept_node None = none
  kept_node (Some k) = some (node_at chars t₀ w e k)

  -- The pair of a turn, by the tables as they were at first.
  abbrev pub pair_at : List ℕ → ℕ → ℕ → Std.Option ℕ → Bool → Bool → Pair
  pair_at ns a b kept f l = record {
    node1 = stands_by ns a kept;
    node2 = b;
    deeper = ltb (depth_below t₀ e a a) (depth_below t₀ e b b);
    first = f;
    last = l;
    default1 = is_default (space_at chars t₀ w (stands_by ns a kept));
    default2 = is_default (space_at chars t₀ w b);
  }

  stands : (b : Bool) (a : ℕ) (kept : Std.Option ℕ) →
      pick b (λ u. given (kept_node kept) (λ n. n) (λ x. node_at chars t₀ w e a)) (λ u. node_at chars t₀ w e a) ≡
      node_at chars t₀ w e (pick b (λ u. unwrap_or kept a) (λ u. a))
  stands false a kept = refl
  stands true a None = refl
  stands true a (Some k) = refl

  kept_next : (b : Bool) (c : ℕ) (kept : Std.Option ℕ) →
      pick b (λ u. kept_node kept) (λ u. some (node_at chars t₀ w e c)) ≡ kept_node (pick b (λ u. kept) (λ u. Some c))
  kept_next true c kept = refl
  kept_next false c kept = refl

  pub pairs-turn : (t : Tree) (f : Bool) (kept : Std.Option ℕ) (a b : ℕ) (more : List TextNode) → Ranged t a →
      run (pairs f (kept_node kept) (node_at chars t₀ w e a) (node_at chars t₀ w e b ∷ more)) t ≡
      run (pairs false (kept_node (kept_behind (after_pair (pair_at t.nodes a b kept f (is_nil more)) t) (stands_by t.nodes a kept) kept))
      (node_at chars t₀ w e b) more) (after_pair (pair_at t.nodes a b kept f (is_nil more)) t)
  unfolding pairs run
  pairs-turn t f kept a b more r =
      let c = stands_by t.nodes a kept in
      let n = node_at chars t₀ w e b in
      let m = node_at chars t₀ w e c in
      let d = ltb (depth_below t₀ e a a) (depth_below t₀ e b b) in
      let stand : stands_for (text_of t a) (node_at chars t₀ w e a) (kept_node kept) ≡ m =
      rw (← empty-is t a r) (stands (eqb (size_of t.nodes a) 0) a kept) in
      ap (λ (s : TextNode). run (pair d f (is_nil more) s n (look s.node
      (λ x. pairs false (pick (is_blank x) (λ u. kept_node kept) (λ u. some s)) n more))) t) stand
      ∙ run-pair d f (is_nil more) m n (look c (λ x. pairs false (pick (is_blank x) (λ u. kept_node kept) (λ u. some m)) n more)) t
      ∙ ap (λ (o : Option TextNode). run (pairs false o n more) (after_pair (pair_at t.nodes a b kept f (is_nil more)) t))
      (kept_next (is_blank (text_of (after_pair (pair_at t.nodes a b kept f (is_nil more)) t) c)) c kept)
