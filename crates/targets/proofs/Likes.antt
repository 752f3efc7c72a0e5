-- Links and marks in tables that differ in words of importance alone. Assumes nothing.
use mathlib.Core.Path.{◌≡◌, refl, ap, ◌∙◌}
use mathlib.Core.List.{List}
use Prim.Native.Nat.{ℕ, zero, suc, ◌-◌}
use native.Mathlib.Omega.{arith}
use Rattle.model.specs.Base.{given}
use Rattle.model.specs.AId
use Rattle.model.specs.Drawing.{Value, reading_of}
use Rattle.model.specs.Tables.{Tree, entry_at, attribute_id, attribute_of, has_id_bytes, last_with_id, element_by_id}
use Rattle.model.specs.Repair.{readings_of_attribute, link_of, cut_name}
use Rattle.model.proofs.Theorems.GoingOn.{given_both}
use Rattle.tree.specs.declared.Counts.{Counts}
use Rattle.tree.specs.Lent.{tree_of}
use Rattle.ids.specs.Chains.{Like}
use Rattle.ids.proofs.Likeness.{like-id, like-value}
use Rattle.targets.specs.Targets.{pass_kind, mark_for, mark_of}

-- Two tables that are alike, below the same nodes.
module _ (n : ℕ) (es₀ es : List ℕ) (w : Like n es₀ es) (ns bs : List ℕ) (c : Counts) (chars : List ℕ) where
  -- The first tree.
  abbrev t : Tree
  t = tree_of ns es₀ bs c

  -- The second.
  abbrev u : Tree
  u = tree_of ns es bs c

  -- What counts as absent.
  like-attribute : (i a : ℕ) → attribute_of chars u i a ≡ attribute_of chars t i a
  unfolding attribute_of
  like-attribute i a = rw (like-id n es₀ es w ns bs c i a, like-value n es₀ es w ns bs c chars (attribute_id t i a - 1)) refl

  -- Whether a node has that id.
  like-has : (id : List ℕ) (i : ℕ) → has_id_bytes chars u id i ≡ has_id_bytes chars t id i
  unfolding has_id_bytes
  like-has id i = rw (like-id n es₀ es w ns bs c i AId.Id, like-value n es₀ es w ns bs c chars (attribute_id t i AId.Id - 1)) refl

  -- The last node with that id.
  like-last : (id : List ℕ) (k : ℕ) → last_with_id chars u id k ≡ last_with_id chars t id k
  unfolding last_with_id
  like-last id zero = refl
  like-last id (suc k) = rw (like-has id k, like-last id k) refl

  -- The mark of an id.
  like-for : (id : List ℕ) → mark_for chars u id ≡ mark_for chars t id
  unfolding mark_for element_by_id
  like-for id = rw (like-last id c.nodes) refl

  module _ (values : List Value) where
    -- The readings of an attribute.
    pub like-readings : (a i : ℕ) → readings_of_attribute chars values u a i ≡ readings_of_attribute chars values t a i
    unfolding readings_of_attribute entry_at
    like-readings a i =
        rw (like-attribute i a, w.words (attribute_of chars t i a - 1) 4 (omega arith) (λ e. omega arith)) refl

    -- The mark of a link.
    pub like-mark : (k m : ℕ) → mark_of chars values k u m ≡ mark_of chars values k t m
    unfolding mark_of
    like-mark k m =
        given_both (link_of chars values (pass_kind k) u (cut_name k) m) _ _ 0 (λ v. like-for v.bytes)
        ∙ ap (λ rs. given (reading_of (pass_kind k) rs) (λ v. mark_for chars t v.bytes) (λ x. 0)) (like-readings (cut_name k) m)
