-- The spaces of nodes, through nodes and attributes alone. Assumes nothing.
use Prim.Native.Nat.{ℕ, ◌+◌, ◌-◌}
use mathlib.Core.Path.{◌≡◌, refl, ap}
use mathlib.Core.Bool.{Bool, true, false}
use mathlib.Core.List.{List}
use lib.Dec.{eqb}
use Rattle.model.specs.Base.{pick, same_bytes}
use Rattle.model.specs.AId
use Rattle.model.specs.Tables.{Tree, entry_at, value_at_entry, holder_of}
use Rattle.model.specs.Text.{XmlSpace, default, preserve, preserve_word, get_xmlspace, space_of}
use Rattle.tree.specs.Lent.{read_of}
use Rattle.tree.proofs.Alike.{id_same, holder-same}

module _ (chars : List ℕ) (t : Tree) where
  abbrev seen : Tree
  seen = read_of t.nodes t.attributes

  pub xmlspace-same : (i : ℕ) (w : XmlSpace) → get_xmlspace chars seen i w ≡ get_xmlspace chars t i w
  unfolding get_xmlspace entry_at
  xmlspace-same i w =
      ap (λ j. pick (eqb j 0) (λ u. w)
      (λ u. pick (same_bytes (value_at_entry chars t j) preserve_word) (λ v. preserve) (λ v. default))) (id_same t i AId.Space)

  pub space-same : (i : ℕ) → space_of chars seen i ≡ space_of chars t i
  unfolding space_of
  space-same i =
      rw (holder-same t AId.Space (i + 1) (i + 1))
      (go (eqb (holder_of t AId.Space i) 0) (xmlspace-same (holder_of t AId.Space i - 1) default))
    where
      go : (b : Bool) {x y : XmlSpace} → x ≡ y → pick b (λ u. default) (λ u. x) ≡ pick b (λ u. default) (λ u. y)
      go true e = refl
      go false e = e
