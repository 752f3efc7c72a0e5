-- What an element gets from those around it: xml:space, and a value `inherit`.
use Prim.Native.Nat.{ℕ, zero, suc, ◌+◌, ◌-◌}
use Rattle.std.specs.Prelude.{◌≡◌, Bool, not}
use Rattle.std.proofs.Math.Path.{refl}
use Rattle.std.proofs.Common.{ap, ◌∙◌, add-one, ne_eqb}
use Rattle.std.proofs.Math.Bool.{true, false}
use mathlib.Core.List.{List, [], ◌∷◌, map}
use Rattle.std.proofs.Math.Option.{Option, none, some}
use native.Mathlib.Omega.{arith}
use Rattle.std.proofs.Math.Dec.{eqb}
use Rattle.model.specs.Base.{pick, given, same_bytes}
use Rattle.model.specs.Names.{is_inheritable, inherit_default}
use Rattle.model.specs.AId
use Rattle.model.specs.Tables.{Tree, parent_of, Entry, entry_at, value_at_entry, attribute_id, has_attribute, holder_from}
use Rattle.model.specs.Element.{inherited_from, copy_from, default_of, resolve_inherit}
use Rattle.model.specs.Text.{XmlSpace, default, preserve, preserve_word, get_xmlspace, space_of}
use Rattle.standards.specs.SvgSpace.{in_force}
use Rattle.standards.specs.CssCascade.{inherited}

-- THE ELEMENTS AROUND

-- The node whose index plus 1 is w, its parent, and so on, n at most; none where w is 0.
unfoldable pub upward_from : Tree → ℕ → ℕ → List ℕ
upward_from t zero w = []
upward_from t (suc n) w = pick (eqb w 0) (λ u. []) (λ u. (w - 1) ∷ upward_from t n (parent_of t (w - 1)))

-- Node i and those around it, the innermost first. A parent has a smaller index than its child, so that i + 1 steps are enough.
unfoldable pub upward : Tree → ℕ → List ℕ
upward t i = upward_from t (i + 1) (i + 1)

-- It begins with node i.
pub upward-first : (t : Tree) (i : ℕ) → upward t i ≡ i ∷ upward_from t i (parent_of t i)
unfolding upward upward_from
upward-first t i =
    let z : i + 1 - 1 ≡ i = omega arith in
    ap (λ n. upward_from t n (i + 1)) (add-one i) ∙ rw (ne_eqb (i + 1) 0 (omega arith), z) refl

-- XML:SPACE

-- What a node says: preserve, or default for any other value.
unfoldable pub says : List ℕ → Tree → ℕ → Option XmlSpace
says chars t i =
    let j : ℕ = attribute_id t i AId.Space in
    pick (eqb j 0) (λ u. none) (λ u. some (pick (same_bytes (value_at_entry chars t j) preserve_word) (λ v. preserve) (λ v. default)))

module _ (chars : List ℕ) (t : Tree) where
  unsaid : (i : ℕ) → eqb (attribute_id t i AId.Space) 0 ≡ true → says chars t i ≡ none
  unfolding says
  unsaid i e = rw e refl

  -- What a node that has the attribute says.
  abbrev word : ℕ → XmlSpace
  word i = pick (same_bytes (value_at_entry chars t (attribute_id t i AId.Space)) preserve_word) (λ v. preserve) (λ v. default)

  here : (i : ℕ) → eqb (attribute_id t i AId.Space) 0 ≡ false → (says chars t i ≡ some (word i)) × (get_xmlspace chars t i default ≡ word i)
  unfolding says get_xmlspace
  here i e = (rw e refl, rw e refl)

  space-from : (n w : ℕ) → pick (eqb (holder_from t AId.Space n w) 0) (λ u. default)
      (λ u. get_xmlspace chars t (holder_from t AId.Space n w - 1) default)
      ≡ in_force (map (says chars t) (upward_from t n w)) default
  unfolding holder_from upward_from in_force
  space-from zero w = refl
  space-from (suc n) w = go (eqb w 0) refl (space-from n (parent_of t (w - 1)))
    where
      said : (b : Bool) → eqb (attribute_id t (w - 1) AId.Space) 0 ≡ b → eqb w 0 ≡ false →
          pick (eqb (holder_from t AId.Space n (parent_of t (w - 1))) 0) (λ u. default)
          (λ u. get_xmlspace chars t (holder_from t AId.Space n (parent_of t (w - 1)) - 1) default)
          ≡ in_force (map (says chars t) (upward_from t n (parent_of t (w - 1)))) default →
          pick (eqb (pick (not b) (λ v. w) (λ v. holder_from t AId.Space n (parent_of t (w - 1)))) 0) (λ u. default)
          (λ u. get_xmlspace chars t (pick (not b) (λ v. w) (λ v. holder_from t AId.Space n (parent_of t (w - 1))) - 1) default)
          ≡ in_force (says chars t (w - 1) ∷ map (says chars t) (upward_from t n (parent_of t (w - 1)))) default
      said true e z h = rw (unsaid (w - 1) e) h
      said false e z h = rw (z, (here (w - 1) e).0, (here (w - 1) e).1) refl

      go : (b : Bool) → eqb w 0 ≡ b →
          pick (eqb (holder_from t AId.Space n (parent_of t (w - 1))) 0) (λ u. default)
          (λ u. get_xmlspace chars t (holder_from t AId.Space n (parent_of t (w - 1)) - 1) default)
          ≡ in_force (map (says chars t) (upward_from t n (parent_of t (w - 1)))) default →
          pick (eqb (pick b (λ u. 0) (λ u. pick (has_attribute t (w - 1) AId.Space) (λ v. w)
          (λ v. holder_from t AId.Space n (parent_of t (w - 1))))) 0) (λ u. default)
          (λ u. get_xmlspace chars t (pick b (λ u. 0) (λ u. pick (has_attribute t (w - 1) AId.Space) (λ v. w)
          (λ v. holder_from t AId.Space n (parent_of t (w - 1)))) - 1) default)
          ≡ in_force (map (says chars t) (pick b (λ u. []) (λ u. (w - 1) ∷ upward_from t n (parent_of t (w - 1))))) default
      go true z h = refl
      go false z h = said (eqb (attribute_id t (w - 1) AId.Space) 0) refl z h

-- THEOREM. xml:space is inherited from the nearest element that says it: what `space_of` gives for any node of any tree.
pub space-in-force : (chars : List ℕ) (t : Tree) (i : ℕ) → space_of chars t i ≡ in_force (map (says chars t) (upward t i)) default
unfolding space_of upward
space-in-force chars t i = space-from chars t (i + 1) (i + 1)

-- INHERIT

-- The entry that a node has of its own for a name.
unfoldable pub own_entry : Tree → ℕ → ℕ → Option Entry
own_entry t a i = pick (eqb (attribute_id t i a) 0) (λ u. none) (λ u. some (entry_at t (attribute_id t i a - 1)))

-- One of what may be there: as a value that may be none.
abbrev pub held : {A : Type 0} → Option A → Option (Option A)
held none = none
held (some x) = some (some x)

module _ (t : Tree) (p a : ℕ) where
  -- The initial value, as the Rust has it: none where it has none, and the attribute is then dropped.
  abbrev pub initial_entry : Option Entry
  initial_entry = default_of t p a (inherit_default a)

  -- What a holder gives, or else the initial value.
  from : ℕ → Option Entry
  from w = given (copy_from t p a w) (λ e. some e) (λ u. initial_entry)

  from-none : from 0 ≡ initial_entry
  unfolding from
  from-none = refl

  from-node : (w : ℕ) → eqb w 0 ≡ false → from w ≡ given (own_entry t a (w - 1)) (λ e. some e) (λ u. initial_entry)
  unfolding from own_entry
  from-node w h = rw h refl

  own-has : (i : ℕ) → eqb (attribute_id t i a) 0 ≡ false → own_entry t a i ≡ some (entry_at t (attribute_id t i a - 1))
  unfolding own_entry
  own-has i h = rw h refl

  own-lacks : (i : ℕ) → eqb (attribute_id t i a) 0 ≡ true → own_entry t a i ≡ none
  unfolding own_entry
  own-lacks i h = rw h refl

  inherit-from : (n w : ℕ) → from (holder_from t a n w)
      ≡ inherited true (map (λ i. held (own_entry t a i)) (upward_from t n w)) initial_entry
  unfolding holder_from upward_from inherited
  inherit-from zero w = from-none
  inherit-from (suc n) w = go (eqb w 0) refl (inherit-from n (parent_of t (w - 1)))
    where
      has : (b : Bool) → eqb (attribute_id t (w - 1) a) 0 ≡ b → eqb w 0 ≡ false →
          from (holder_from t a n (parent_of t (w - 1))) ≡ inherited true
          (map (λ i. held (own_entry t a i)) (upward_from t n (parent_of t (w - 1)))) initial_entry →
          from (pick (not b) (λ v. w) (λ v. holder_from t a n (parent_of t (w - 1))))
          ≡ inherited true (held (own_entry t a (w - 1)) ∷ map (λ i. held (own_entry t a i)) (upward_from t n (parent_of t (w - 1))))
          initial_entry
      has true e z h = rw (own-lacks (w - 1) e) h
      has false e z h = from-node w z ∙ rw (own-has (w - 1) e) refl

      go : (b : Bool) → eqb w 0 ≡ b →
          from (holder_from t a n (parent_of t (w - 1))) ≡ inherited true
          (map (λ i. held (own_entry t a i)) (upward_from t n (parent_of t (w - 1)))) initial_entry →
          from (pick b (λ u. 0) (λ u. pick (has_attribute t (w - 1) a) (λ v. w) (λ v. holder_from t a n (parent_of t (w - 1)))))
          ≡ inherited true (map (λ i. held (own_entry t a i)) (pick b (λ u. []) (λ u. (w - 1) ∷ upward_from t n (parent_of t (w - 1)))))
          initial_entry
      go true z h = from-none
      go false z h = has (eqb (attribute_id t (w - 1) a) 0) refl z h

  parent-alone : from (p + 1) ≡ inherited false (map (λ i. held (own_entry t a i)) (upward t p)) initial_entry
  unfolding inherited
  parent-alone =
      let z : p + 1 - 1 ≡ p = omega arith in
      from-node (p + 1) (ne_eqb (p + 1) 0 (omega arith)) ∙ rw (z, upward-first t p) (go (own_entry t a p))
    where
      go : (o : Option Entry) → given o (λ e. some e) (λ u. initial_entry)
          ≡ inherited false (held o ∷ map (λ i. held (own_entry t a i)) (upward_from t p (parent_of t p))) initial_entry
      go none = refl
      go (some e) = refl

  -- THEOREM. A value `inherit` below node p becomes the inherited value: for a name that `is_inheritable` the entry of the nearest of p and
  -- those around it that has one, for another name p's own, and else the initial value; the entry comes whole, with its importance.
  pub inherit-is-inherited : resolve_inherit t p a
      ≡ inherited (is_inheritable a) (map (λ i. held (own_entry t a i)) (upward t p)) initial_entry
  unfolding resolve_inherit inherited_from from upward
  inherit-is-inherited = go (is_inheritable a)
    where
      go : (b : Bool) → from (pick b (λ u. holder_from t a (p + 1) (p + 1)) (λ u. p + 1))
          ≡ inherited b (map (λ i. held (own_entry t a i)) (upward t p)) initial_entry
      go true = inherit-from (p + 1) (p + 1)
      go false = parent-alone
