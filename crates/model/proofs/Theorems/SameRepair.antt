-- The repairs of two trees that are the same in the sense of Same make the same cuts.
use Prim.Native.Nat.{ℕ, zero, suc, ◌+◌, ◌-◌, ◌*◌}
use Rattle.std.specs.Prelude.{◌≡◌, Bool, leb, set}
use Rattle.std.proofs.Math.Path.{refl, ap, fun_ext}
use Rattle.std.proofs.Common.{◌∙◌, eq-eqb}
use Rattle.std.proofs.Math.Bool.{true, false}
use mathlib.Core.List.{List, [], ◌∷◌, ◌++◌, map}
use Rattle.std.proofs.Math.Option.{Option, none, some}
use Rattle.std.proofs.Math.Dec.{eqb}
use Rattle.std.proofs.Math.ListN.{get_or}
use Rattle.std.proofs.Math.Seq.{sets, slice}
use native.Mathlib.Omega.{arith}
use Rattle.std.proofs.Math.Decide.{ℕ_discrete}
use Rattle.model.specs.Base.{pick, given, same_bytes}
use Rattle.model.specs.EId
use Rattle.model.specs.AId
use Rattle.model.specs.Drawing.{Value, reading_of}
use Rattle.model.specs.Tables.{Tree, parent_of, Entry, entry_at, value_of, attribute_id, attribute_of, element_by_id, set_none}
use Rattle.model.specs.Repair.{up_from, all_named, below_from, descendants, first_found, readings_of_attribute, link_of, element_id}
use Rattle.model.specs.Repair.{paints_with, link_kind, node_attribute, first_below, recursive_pattern_at, find_recursive_pattern}
use Rattle.model.specs.Repair.{recursive_link_at, find_recursive_link, recursive_fe_image, fe_image_links, Cut, cut_name, cut_at, apply_cut}
use Rattle.model.specs.Repair.{applied, next_cut, cuts_from, cuts_of, cuts_of_all, repairs, repaired}
use Rattle.model.specs.Names.{fixed_bytes}
use Rattle.model.proofs.Theorems.Agree.{sets-out}
use Rattle.model.proofs.Theorems.Entries.{entry-by-words}
use Rattle.model.specs.Theorems.Same.{Same}
use Rattle.model.proofs.Theorems.Same.{entry-same, value_same, attribute-id-same, attribute-of-same, by-id-same, named-same}

given-same : {A B : Type 0} (o : Option A) (f g : A → B) (b : B) → ((a : A) → f a ≡ g a) → given o f (λ u. b) ≡ given o g (λ u. b)
given-same (some a) f g b h = h a
given-same none f g b h = refl

module _ (one two : List ℕ) (values : List Value) (s r : Tree) (h : Same one two s r) where
  all-named-same : (c : ℕ) (is : List ℕ) → all_named s c is ≡ all_named r c is
  unfolding all_named
  all-named-same c [] = refl
  all-named-same c (i ∷ is) = rw (named-same one two s r h c i, all-named-same c is)

  below-same : (i : ℕ) (js : List ℕ) → below_from s i js ≡ below_from r i js
  unfolding below_from
  below-same i [] = refl
  below-same i (j ∷ js) = rw (h.parent j, below-same i js)

  descendants-same : (i : ℕ) → descendants s i ≡ descendants r i
  unfolding descendants
  descendants-same i =
      ap (λ js. i ∷ js) (below-same i (up_from (i + 1) (s.node_count - (i + 1))) ∙ ap (λ n. below_from r i (up_from (i + 1) (n - (i + 1))))
      h.count)

  readings-same : (a i : ℕ) → readings_of_attribute one values s a i ≡ readings_of_attribute two values r a i
  unfolding readings_of_attribute
  readings-same a i = rw (attribute-of-same one two s r h i a, entry-same one two s r h (attribute_of two r i a - 1))

  element-id-same : (i : ℕ) → element_id one s i ≡ element_id two r i
  unfolding element_id
  element-id-same i = rw (attribute-id-same one two s r h i AId.Id, value_same one two s r h (attribute_id r i AId.Id))

  paints-same : (a : ℕ) (id : List ℕ) (i : ℕ) → paints_with one values s a id i ≡ paints_with two values r a id i
  unfolding paints_with
  paints-same a id i = rw (readings-same a i)

  node-attribute-same : (a i : ℕ) → node_attribute one values s a i ≡ node_attribute two values r a i
  unfolding node_attribute
  node-attribute-same a i =
      ap (λ l. given (reading_of (link_kind a) l) (λ v. element_by_id one s v.bytes) (λ u. 0)) (readings-same a i)
      ∙ given-same (link_of two values (link_kind a) r a i) _ _ 0 (λ v. by-id-same one two s r h v.bytes)

  below-first-same : (f g : ℕ → Bool) → ((i : ℕ) → f i ≡ g i) → (w : ℕ) → first_below s f w ≡ first_below r g w
  below-first-same f g e w = rw (← fun_ext e, descendants-same (w - 1))

  pattern-at-same : (a : ℕ) (id : List ℕ) (i : ℕ) → recursive_pattern_at one values s a id i ≡ recursive_pattern_at two values r a id i
  unfolding recursive_pattern_at
  pattern-at-same a id i =
      ap (λ l. given (reading_of 3 l) (λ v. pick (same_bytes v.bytes id) (λ u. i + 1) (λ u. first_below s (paints_with one values s a id)
      (element_by_id one s v.bytes))) (λ u. 0)) (readings-same a i)
      ∙ given-same (link_of two values 3 r a i) _ _ 0 (λ v. rw (
        by-id-same one two s r h v.bytes,
        below-first-same (paints_with one values s a id) (paints_with two values r a id) (paints-same a id) (element_by_id two r v.bytes),
      ))

  pattern-same : (a : ℕ) → find_recursive_pattern one values a s ≡ find_recursive_pattern two values a r
  unfolding find_recursive_pattern
  pattern-same a =
      ap (λ f. first_found f (all_named s EId.Pattern (up_from 0 s.node_count)))
      (fun_ext (λ i. rw (element-id-same i, descendants-same i, fun_ext (pattern-at-same a (element_id two r i)))))
      ∙ ap (λ l. first_found (λ i. first_found (recursive_pattern_at two values r a (element_id two r i)) (descendants r i)) l)
      (all-named-same EId.Pattern (up_from 0 s.node_count) ∙ ap (λ n. all_named r EId.Pattern (up_from 0 n)) h.count)

  link-at-same : (a i child : ℕ) → recursive_link_at one values s a i child ≡ recursive_link_at two values r a i child
  unfolding recursive_link_at
  link-at-same a i child =
      rw (
        node-attribute-same a child,
        below-first-same (λ j. eqb (node_attribute one values s a j) (i + 1)) (λ j. eqb (node_attribute two values r a j) (i + 1))
            (λ j. rw (node-attribute-same a j)) (node_attribute two values r a child),
      )

  link-same : (c a : ℕ) → find_recursive_link one values c a s ≡ find_recursive_link two values c a r
  unfolding find_recursive_link
  link-same c a =
      ap (λ f. first_found f (all_named s c (up_from 0 s.node_count))) (fun_ext (λ i. rw (descendants-same i, fun_ext (link-at-same a i))))
      ∙ ap (λ l. first_found (λ i. first_found (recursive_link_at two values r a i) (descendants r i)) l)
      (all-named-same c (up_from 0 s.node_count) ∙ ap (λ n. all_named r c (up_from 0 n)) h.count)

  fe-image-same : (i : ℕ) → recursive_fe_image one values s i ≡ recursive_fe_image two values r i
  unfolding recursive_fe_image
  fe-image-same i =
      rw (
        node-attribute-same AId.Href i,
        h.parent i,
        element-id-same (parent_of r i - 1),
        readings-same AId.Filter (node_attribute two values r AId.Href i - 1),
      )

  fe-links-same : (found is : List ℕ) → fe_image_links one values s found is ≡ fe_image_links two values r found is
  unfolding fe_image_links
  fe-links-same found [] = refl
  fe-links-same found (i ∷ is) =
      rw (fe-image-same i, fe-links-same found is, fe-links-same (recursive_fe_image two values r i ∷ found) is)

  next-same : (k : ℕ) → next_cut one values k s ≡ next_cut two values k r
  unfolding next_cut
  next-same k = rw (pattern-same (cut_name k), link-same (get_or (EId.ClipPath ∷ EId.Mask ∷ EId.Filter ∷ []) (k - 3) 0) (cut_name k))

-- A CUT

-- A fixed value is read from no characters.
pub fixed-safe : (one two : List ℕ) (e : Entry) → e.command ≡ 0 → value_of one e ≡ value_of two e
unfolding value_of
fixed-safe one two e h = go (eqb e.command 0) (eq-eqb e.command 0 h)
  where
    go : (b : Bool) → b ≡ true → pick b (λ u. fixed_bytes e.start) (λ u. slice e.start (e.start + e.size) one)
        ≡ pick b (λ u. fixed_bytes e.start) (λ u. slice e.start (e.start + e.size) two)
    go true x = refl
    go false x = let z : ◌≡◌ {A = ℕ} 0 1 = cc in absurd (omega arith)

set-zero : (xs : List ℕ) (p : ℕ) → get_or (set xs p 0) p 0 ≡ 0
set-zero [] p = refl
set-zero (x ∷ xs) zero = refl
set-zero (x ∷ xs) (suc p) = set-zero xs p

module _ (one two : List ℕ) where
  none-safe : (t : Tree) (j : ℕ) → ((i : ℕ) → value_of one (entry_at t i) ≡ value_of two (entry_at t i)) →
      (i : ℕ) → value_of one (entry_at (set_none j t) i) ≡ value_of two (entry_at (set_none j t) i)
  unfolding set_none entry_at
  none-safe t j h i = go (ℕ_discrete i j)
    where
      go : Dec (i ≡ j) → value_of one (entry_at (set_none j t) i) ≡ value_of two (entry_at (set_none j t) i)
      go (yes e) =
          let p : 5 * i + 4 ≡ suc (suc (5 * j + 2)) = omega arith in
          fixed-safe one two (entry_at (set_none j t) i)
          (ap (λ q. get_or (sets t.attributes (5 * j + 2) (1 ∷ 0 ∷ 0 ∷ [])) q 0) p
          ∙ set-zero (set (set t.attributes (5 * j + 2) 1) (suc (5 * j + 2)) 0) (suc (suc (5 * j + 2))))
      go (no n) =
          rw (entry-by-words (set_none j t) t i (λ k b. sets-out (1 ∷ 0 ∷ 0 ∷ []) t.attributes (5 * j + 2) (5 * i + k)
          (λ x y. n (omega arith)))) (h i)

  none-same : (s r : Tree) (j : ℕ) → Same one two s r → Same one two (set_none j s) (set_none j r)
  unfolding set_none
  none-same s r j h = record {
    count = h.count;
    attribute_count = h.attribute_count;
    attributes = ap (λ l. sets l (5 * j + 2) (1 ∷ 0 ∷ 0 ∷ [])) h.attributes;
    kind = h.kind;
    parent = h.parent;
    child = h.child;
    code = h.code;
    range = h.range;
    safe = none-safe s j h.safe;
  }

  cut-same : (s r : Tree) (c : Cut) → Same one two s r → Same one two (apply_cut s c) (apply_cut r c)
  unfolding apply_cut
  cut-same s r c h = rw (attribute-id-same one two s r h c.node (cut_name c.pass)) (go (attribute_id r c.node (cut_name c.pass)))
    where
      pick_same : (b : Bool) (j : ℕ) → Same one two (pick b (λ u. s) (λ u. set_none j s)) (pick b (λ u. r) (λ u. set_none j r))
      pick_same true j = h
      pick_same false j = none-same s r j h

      go : (j : ℕ) → Same one two (pick (eqb j 0) (λ u. s) (λ u. set_none (j - 1) s)) (pick (eqb j 0) (λ u. r) (λ u. set_none (j - 1) r))
      go j = pick_same (eqb j 0) (j - 1)

  pub cuts-applied : (s r : Tree) (cs : List Cut) → Same one two s r → Same one two (applied s cs) (applied r cs)
  unfolding applied
  cuts-applied s r [] h = h
  cuts-applied s r (c ∷ cs) h = cuts-applied (apply_cut s c) (apply_cut r c) cs (cut-same s r c h)

  cut-at-same : (s r : Tree) (k i : ℕ) → Same one two s r → cut_at s k i ≡ cut_at r k i
  unfolding cut_at
  cut-at-same s r k i h =
      rw (attribute-id-same one two s r h i (cut_name k), entry-same one two s r h (attribute_id r i (cut_name k) - 1)) refl

  module _ (values : List Value) where
    cuts-from-same : (k n : ℕ) (s r : Tree) → Same one two s r → cuts_from one values k n s ≡ cuts_from two values k n r
    unfolding cuts_from
    cuts-from-same k zero s r h = refl
    cuts-from-same k (suc n) s r h =
        rw (next-same one two values s r h k, cut-at-same s r k (next_cut two values k r - 1) h)
        (ap (λ l. pick (eqb (next_cut two values k r) 0) (λ u. []) (λ u. cut_at r k (next_cut two values k r - 1) ∷ l))
        (cuts-from-same k n _ _ (cut-same s r (cut_at r k (next_cut two values k r - 1)) h)))

    cuts-of-same : (k : ℕ) (s r : Tree) → Same one two s r → cuts_of one values k s ≡ cuts_of two values k r
    unfolding cuts_of
    cuts-of-same k s r h = go (leb k 5)
      where
        links : fe_image_links one values s [] (all_named s EId.FeImage (up_from 0 s.node_count)) ≡ fe_image_links two values r []
            (all_named r EId.FeImage (up_from 0 r.node_count))
        links = fe-links-same one two values s r h [] _ ∙ ap (λ l. fe_image_links two values r [] l)
            (all-named-same one two values s r h EId.FeImage _ ∙ ap (λ n. all_named r EId.FeImage (up_from 0 n)) h.count)

        go : (b : Bool) → pick b (λ u. cuts_from one values k s.attribute_count s)
            (λ u. map (cut_at s k) (fe_image_links one values s [] (all_named s EId.FeImage (up_from 0 s.node_count))))
            ≡ pick b (λ u. cuts_from two values k r.attribute_count r)
            (λ u. map (cut_at r k) (fe_image_links two values r [] (all_named r EId.FeImage (up_from 0 r.node_count))))
        go true = cuts-from-same k s.attribute_count s r h ∙ ap (λ n. cuts_from two values k n r) h.attribute_count
        go false = ap (λ l. map (cut_at s k) l) links
            ∙ ap (λ f. map f (fe_image_links two values r [] (all_named r EId.FeImage (up_from 0 r.node_count))))
            (fun_ext (λ i. cut-at-same s r k i h))

    cuts-of-all-same : (ks : List ℕ) (s r : Tree) → Same one two s r → cuts_of_all one values ks s ≡ cuts_of_all two values ks r
    unfolding cuts_of_all
    cuts-of-all-same [] s r h = refl
    cuts-of-all-same (k ∷ ks) s r h =
        ap (λ l. l ++ cuts_of_all one values ks (applied s l)) (cuts-of-same k s r h)
        ∙ ap (λ l. cuts_of two values k r ++ l) (cuts-of-all-same ks _ _ (cuts-applied s r (cuts_of two values k r) h))

    pub repairs-same : (s r : Tree) → Same one two s r → repairs one values s ≡ repairs two values r
    unfolding repairs
    repairs-same s r h = cuts-of-all-same (1 ∷ 2 ∷ 3 ∷ 4 ∷ 5 ∷ 6 ∷ []) s r h

    pub repaired-same : (s r : Tree) → Same one two s r → Same one two (repaired one values s) (repaired two values r)
    unfolding repaired
    repaired-same s r h = rw (repairs-same s r h) (cuts-applied s r (repairs two values r) h)
