-- The repairs read no importance: in tables that differ in it alone they cut the same. Assumes nothing.
use mathlib.Core.Path.{◌≡◌, refl, sym, ap, ◌∙◌, subst, fun_ext}
use mathlib.Core.Bool.{Bool, true, false}
use mathlib.Core.List.{List, [], ◌∷◌, ◌++◌}
use Prim.Native.Nat.{ℕ, zero, suc, ◌+◌, ◌-◌, ◌*◌, ◌/◌, ◌%◌, ◌<◌, ◌≤◌}
use native.Mathlib.Omega.{arith}
use native.Mathlib.Nat.{div-add-mod'}
use native.Mathlib.Decide.{ℕ_discrete, dec_lt}
use lib.Dec.{eqb, leb}
use lib.ListN.{get_or}
use lib.Seq.{sets, length-sets, ext_get_or}
use Rattle.model.specs.Base.{pick, given, Pair}
use Rattle.model.specs.EId
use Rattle.model.specs.AId
use Rattle.model.specs.Drawing.{Value, reading_of}
use Rattle.model.specs.Tables.{Tree, word, entry_at, value_of, entry_word, attribute_id, attribute_of, has_id_bytes, last_with_id}
use Rattle.model.specs.Tables.{element_by_id, set_none, parent_of}
use Rattle.model.specs.Repair.{up_from, all_named, link_kind, link_of, element_id, readings_of_attribute, paints_with, node_attribute}
use Rattle.model.specs.Repair.{recursive_fe_image, Cut, cut_name, cut_at, apply_cut, applied}
use Rattle.model.proofs.Theorems.Agree.{agree-sets, sets-out}
use Rattle.model.specs.Theorems.GoingOn.{leads_to, target_of, nodes_at, cuts_along, going_on, element_of, pairs_of}
use Rattle.model.proofs.Theorems.GoingOn.{given_both}
use Rattle.model.specs.Theorems.Images.{images_on, pass_on, passes_on}
use Rattle.model.specs.Theorems.Kept.{Tidy, with_attributes}
use Rattle.tree.specs.declared.Counts.{Counts}
use Rattle.tree.specs.Lent.{read_of}
use Rattle.tree.proofs.Alike.{id_same}
use Rattle.ids.specs.Chains.{Like, Unmarked}
use Rattle.ids.proofs.Likeness.{like-id, like-value}
use Rattle.targets.specs.Targets.{seen_of}
use Rattle.cuts.proofs.Descending.{descendants-alike}
use Rattle.cuts.proofs.Writing.{ids-applied}
use Rattle.repair.specs.Passes.{all_passes}
use Rattle.repair.proofs.Passing.{named-alike, both-alike}

-- Two trees that differ in importance alone.
pub record Twin (n : ℕ) (t u : Tree) : Type 0 where
  pub nodes : u.nodes ≡ t.nodes
  pub count : u.node_count ≡ t.node_count
  pub like : Like n t.attributes u.attributes

module _ (n : ℕ) (t u : Tree) (w : Twin n t u) where
  -- WHAT IS READ

  twin-id : (i a : ℕ) → attribute_id u i a ≡ attribute_id t i a
  twin-id i a =
      sym (id_same u i a) ∙ ap (λ (ns : List ℕ). attribute_id (read_of ns u.attributes) i a) w.nodes
      ∙ like-id n t.attributes u.attributes w.like t.nodes [] (record { nodes = 0; attributes = 0; text = 0 }) i a ∙ id_same t i a

  twin-value : (chars : List ℕ) (j : ℕ) → value_of chars (entry_at u j) ≡ value_of chars (entry_at t j)
  unfolding entry_at
  twin-value chars j = like-value n t.attributes u.attributes w.like [] [] (record { nodes = 0; attributes = 0; text = 0 }) chars j

  twin-parent : (i : ℕ) → parent_of u i ≡ parent_of t i
  twin-parent i = ap (λ (ns : List ℕ). word ns i 1) w.nodes

  twin-command : (j : ℕ) → entry_word u j 4 ≡ entry_word t j 4
  twin-command j = w.like.words j 4 (omega arith) (λ e. omega arith)

  twin-cut : (k m : ℕ) → cut_at u k m ≡ cut_at t k m
  unfolding cut_at entry_at
  twin-cut k m = rw (twin-id m (cut_name k), twin-command (attribute_id t m (cut_name k) - 1)) refl

  module _ (chars : List ℕ) where
    twin-of : (i a : ℕ) → attribute_of chars u i a ≡ attribute_of chars t i a
    unfolding attribute_of
    twin-of i a = rw (twin-id i a, twin-value chars (attribute_id t i a - 1)) refl

    twin-element : (i : ℕ) → element_id chars u i ≡ element_id chars t i
    unfolding element_id
    twin-element i = rw (twin-id i AId.Id, twin-value chars (attribute_id t i AId.Id - 1)) refl

    twin-has : (id : List ℕ) (i : ℕ) → has_id_bytes chars u id i ≡ has_id_bytes chars t id i
    unfolding has_id_bytes
    twin-has id i = rw (twin-id i AId.Id, twin-value chars (attribute_id t i AId.Id - 1)) refl

    twin-last : (id : List ℕ) (k : ℕ) → last_with_id chars u id k ≡ last_with_id chars t id k
    unfolding last_with_id
    twin-last id zero = refl
    twin-last id (suc k) = rw (twin-has id k, twin-last id k) refl

    twin-by-id : (id : List ℕ) → element_by_id chars u id ≡ element_by_id chars t id
    unfolding element_by_id
    twin-by-id id = twin-last id u.node_count ∙ ap (last_with_id chars t id) w.count

    module _ (values : List Value) where
      twin-readings : (a i : ℕ) → readings_of_attribute chars values u a i ≡ readings_of_attribute chars values t a i
      unfolding readings_of_attribute entry_at
      twin-readings a i = rw (twin-of i a, twin-command (attribute_of chars t i a - 1)) refl

      twin-paints : (a : ℕ) (id : List ℕ) (i : ℕ) → paints_with chars values u a id i ≡ paints_with chars values t a id i
      unfolding paints_with
      twin-paints a id i = rw (twin-readings a i) refl

      twin-link : (k a i : ℕ) → given (link_of chars values k u a i) (λ v. element_by_id chars u v.bytes) (λ x. 0)
          ≡ given (link_of chars values k t a i) (λ v. element_by_id chars t v.bytes) (λ x. 0)
      twin-link k a i =
          ap (λ rs. given (reading_of k rs) (λ v. element_by_id chars u v.bytes) (λ x. 0)) (twin-readings a i)
          ∙ given_both (link_of chars values k t a i) _ _ 0 (λ v. twin-by-id v.bytes)

      twin-node : (a i : ℕ) → node_attribute chars values u a i ≡ node_attribute chars values t a i
      unfolding node_attribute
      twin-node a i = twin-link (link_kind a) a i

      twin-leads : (k i m : ℕ) → leads_to chars values k u i m ≡ leads_to chars values k t i m
      unfolding leads_to
      twin-leads k i m = rw (twin-element i, twin-paints (cut_name k) (element_id chars t i) m, twin-node (cut_name k) m) refl

      twin-target : (k m : ℕ) → target_of chars values k u m ≡ target_of chars values k t m
      unfolding target_of
      twin-target k m = rw (twin-link 3 (cut_name k) m, twin-node (cut_name k) m) refl

      twin-nodes : (k i j : ℕ) → nodes_at chars values k u i j ≡ nodes_at chars values k t i j
      unfolding nodes_at
      twin-nodes k i j =
          rw (
            ← fun_ext (λ m. sym (twin-leads k i m)),
            twin-target k j,
            descendants-alike u t w.nodes w.count (target_of chars values k t j - 1),
          ) refl

      twin-image : (i : ℕ) → recursive_fe_image chars values u i ≡ recursive_fe_image chars values t i
      unfolding recursive_fe_image
      twin-image i =
          rw (
            twin-node AId.Href i,
            twin-parent i,
            twin-element (parent_of t i - 1),
            twin-readings AId.Filter (node_attribute chars values t AId.Href i - 1),
          ) refl

-- WHAT IS CUT

like-none : (n j : ℕ) (es₀ es : List ℕ) → Like n es₀ es
    → Like n (sets es₀ (5 * j + 2) (1 ∷ 0 ∷ 0 ∷ [])) (sets es (5 * j + 2) (1 ∷ 0 ∷ 0 ∷ []))
like-none n j es₀ es w = record {
  long = length-sets es (5 * j + 2) vs ∙ w.long ∙ sym (length-sets es₀ (5 * j + 2) vs);
  words = λ i k l d. at (5 * i + k) (w.words i k l d);
  important = λ i. ap (λ (x : ℕ). x % 2) (sets-out vs es (5 * j + 2) (5 * i + 1) (λ a b. omega arith)) ∙ w.important i
      ∙ sym (ap (λ (x : ℕ). x % 2) (sets-out vs es₀ (5 * j + 2) (5 * i + 1) (λ a b. omega arith)));
  behind = λ q l. at q (w.behind q l);
}
  where
    vs : List ℕ
    vs = 1 ∷ 0 ∷ 0 ∷ []

    at : (q : ℕ) → get_or es q 0 ≡ get_or es₀ q 0 → get_or (sets es (5 * j + 2) vs) q 0 ≡ get_or (sets es₀ (5 * j + 2) vs) q 0
    at q e = (agree-sets {P = λ x. x ≡ q} {xs = es} {ys = es₀} vs (5 * j + 2) (record { long = w.long; at = λ x z. rw z e })).at q refl

twin-apply : (n : ℕ) (t u : Tree) → Twin n t u → (x : Cut) → Twin n (apply_cut t x) (apply_cut u x)
unfolding apply_cut set_none
twin-apply n t u w x =
    subst (λ (j : ℕ). Twin n (apply_cut t x) (pick (eqb j 0) (λ v. u) (λ v. set_none (j - 1) u)))
    (sym (twin-id n t u w x.node (cut_name x.pass))) (go (eqb (attribute_id t x.node (cut_name x.pass)) 0))
  where
    j : ℕ
    j = attribute_id t x.node (cut_name x.pass)

    go : (b : Bool) → Twin n (pick b (λ v. t) (λ v. set_none (j - 1) t)) (pick b (λ v. u) (λ v. set_none (j - 1) u))
    go true = w
    go false = record { nodes = w.nodes; count = w.count; like = like-none n (j - 1) t.attributes u.attributes w.like }

pub twin-applied : (n : ℕ) (cs : List Cut) (t u : Tree) → Twin n t u → Twin n (applied t cs) (applied u cs)
unfolding applied
twin-applied n [] t u w = w
twin-applied n (x ∷ cs) t u w = twin-applied n cs (apply_cut t x) (apply_cut u x) (twin-apply n t u w x)

module _ (n : ℕ) (chars : List ℕ) (values : List Value) where
  twin-along : (k : ℕ) (ms : List ℕ) (t u : Tree) → Twin n t u → cuts_along chars values k u ms ≡ cuts_along chars values k t ms
  unfolding cuts_along
  twin-along k [] t u w = refl
  twin-along k (m ∷ ms) t u w =
      rw (
        twin-cut n t u w k m,
        twin-along k ms (apply_cut t (cut_at t k m)) (apply_cut u (cut_at t k m)) (twin-apply n t u w (cut_at t k m)),
      ) refl

  twin-going : (k : ℕ) (ps : List Pair) (t u : Tree) → Twin n t u → going_on chars values k u ps ≡ going_on chars values k t ps
  unfolding going_on
  twin-going k [] t u w = refl
  twin-going k (p ∷ ps) t u w =
      ap (λ (cs : List Cut). cs ++ going_on chars values k (applied u cs) ps)
      (ap (cuts_along chars values k u) (twin-nodes n t u w chars values k p.key p.value)
      ∙ twin-along k (nodes_at chars values k t p.key p.value) t u w)
      ∙ ap (λ (cs : List Cut). own ++ cs) (twin-going k ps (applied t own) (applied u own) (twin-applied n own t u w))
    where
      own : List Cut
      own = cuts_along chars values k t (nodes_at chars values k t p.key p.value)

  twin-images : (is : List ℕ) (t u : Tree) → Twin n t u → images_on chars values u is ≡ images_on chars values t is
  unfolding images_on
  twin-images [] t u w = refl
  twin-images (i ∷ is) t u w =
      rw (
        twin-image n t u w chars values i,
        twin-images is t u w,
        twin-cut n t u w 6 (recursive_fe_image chars values t i - 1),
        twin-images is (apply_cut t cut) (apply_cut u cut) (twin-apply n t u w cut),
      ) refl
    where
      cut : Cut
      cut = cut_at t 6 (recursive_fe_image chars values t i - 1)

  twin-pass : (k : ℕ) (t u : Tree) → Twin n t u → pass_on chars values k u ≡ pass_on chars values k t
  unfolding pass_on
  twin-pass k t u w = go (leb k 5)
    where
      go : (b : Bool) → pick b (λ x. going_on chars values k u (pairs_of u (all_named u (element_of k) (up_from 0 u.node_count))))
          (λ x. images_on chars values u (all_named u EId.FeImage (up_from 0 u.node_count)))
          ≡ pick b (λ x. going_on chars values k t (pairs_of t (all_named t (element_of k) (up_from 0 t.node_count))))
          (λ x. images_on chars values t (all_named t EId.FeImage (up_from 0 t.node_count)))
      go true =
          ap (going_on chars values k u)
          (both-alike u t w.nodes w.count (element_of k) (up_from 0 u.node_count)
          ∙ ap (λ (c : ℕ). pairs_of t (all_named t (element_of k) (up_from 0 c))) w.count)
          ∙ twin-going k (pairs_of t (all_named t (element_of k) (up_from 0 t.node_count))) t u w
      go false =
          ap (images_on chars values u)
          (named-alike u t w.nodes w.count EId.FeImage (up_from 0 u.node_count)
          ∙ ap (λ (c : ℕ). all_named t EId.FeImage (up_from 0 c)) w.count)
          ∙ twin-images (all_named t EId.FeImage (up_from 0 t.node_count)) t u w

  pub twin-passes : (ks : List ℕ) (t u : Tree) → Twin n t u → passes_on chars values ks u ≡ passes_on chars values ks t
  unfolding passes_on
  twin-passes [] t u w = refl
  twin-passes (k ∷ ks) t u w =
      ap (λ (cs : List Cut). cs ++ passes_on chars values ks (applied u cs)) (twin-pass k t u w)
      ∙ ap (λ (cs : List Cut). pass_on chars values k t ++ cs)
      (twin-passes ks (applied t (pass_on chars values k t)) (applied u (pass_on chars values k t))
      (twin-applied n (pass_on chars values k t) t u w))

-- AT THE END

-- A cut changes the attributes alone.
shape : (cs : List Cut) (t : Tree) → applied t cs ≡ with_attributes (applied t cs).attributes t
unfolding applied apply_cut set_none
shape [] t = refl
shape (x ∷ cs) t =
    shape cs (apply_cut t x)
    ∙ go (eqb (attribute_id t x.node (cut_name x.pass)) 0)
  where
    j : ℕ
    j = attribute_id t x.node (cut_name x.pass)

    go : (b : Bool) → with_attributes (applied (apply_cut t x) cs).attributes (pick b (λ v. t) (λ v. set_none (j - 1) t))
        ≡ with_attributes (applied (apply_cut t x) cs).attributes t
    go true = refl
    go false = refl

-- The table with nothing behind importance, at each word.
module _ (n : ℕ) (es₀ es₂ es₃ : List ℕ) (w : Like n es₀ es₂) (low : (j : ℕ) → j < n → get_or es₀ (5 * j + 1) 0 ≤ 1)
    (m : Unmarked es₂ es₃ n) where
  whole : (q : ℕ) → q / 5 * 5 + q % 5 ≡ q
  whole q = div-add-mod' q 5

  at : (q : ℕ) → Dec (q < 5 * n) → get_or es₃ q 0 ≡ get_or es₀ q 0
  at q (no l) = m.behind q (omega arith) ∙ w.behind q (omega arith)
  at q (yes l) = go (ℕ_discrete (q % 5) 1)
    where
      e : 5 * (q / 5) + q % 5 ≡ q
      e = omega (arith, whole q)

      small : q % 5 < 5
      small = omega arith

      inside : q / 5 < n
      inside = omega (arith, e)

      go : Dec (q % 5 ≡ 1) → get_or es₃ q 0 ≡ get_or es₀ q 0
      go (no d) =
          ap (λ (x : ℕ). get_or es₃ x 0) (sym e) ∙ m.words (q / 5) (q % 5) small d ∙ w.words (q / 5) (q % 5) small d
          ∙ ap (λ (x : ℕ). get_or es₀ x 0) e
      go (yes d) =
          let f : q ≡ 5 * (q / 5) + 1 = omega (arith, e, d) in
          let p : get_or es₀ (5 * (q / 5) + 1) 0 ≤ 1 = low (q / 5) inside in
          let one : get_or es₀ (5 * (q / 5) + 1) 0 % 2 ≡ get_or es₀ (5 * (q / 5) + 1) 0 = omega arith in
          ap (λ (x : ℕ). get_or es₃ x 0) f ∙ m.important (q / 5) inside ∙ w.important (q / 5) ∙ one ∙ ap (λ (x : ℕ). get_or es₀ x 0) (sym f)

  unmarked : es₃ ≡ es₀
  unmarked = ext_get_or 0 es₃ es₀ (m.long ∙ w.long) (λ q l. at q (dec_lt q (5 * n)))

-- Chains are made, all passes run, the chains are taken away: what is left are the cuts of the tables at first.
pub unchained : (size : ℕ) (chars : List ℕ) (values : List Value) (ns : List ℕ) (c : Counts) (es₀ es₁ es₂ es₃ : List ℕ)
    → Tidy size (seen_of ns es₀ c) → ((j : ℕ) → j < c.attributes → get_or es₀ (5 * j + 1) 0 ≤ 1) → Like c.attributes es₀ es₁
    → seen_of ns es₂ c ≡ applied (seen_of ns es₁ c) (all_passes chars values (seen_of ns es₁ c)) → Unmarked es₂ es₃ c.attributes
    → seen_of ns es₃ c ≡ applied (seen_of ns es₀ c) (all_passes chars values (seen_of ns es₀ c))
unchained size chars values ns c es₀ es₁ es₂ es₃ g low w e m =
    ap (λ (es : List ℕ). seen_of ns es c) (unmarked c.attributes last.attributes es₂ es₃ like plain m) ∙ sym (shape cs t)
  where
    t : Tree
    t = seen_of ns es₀ c

    u : Tree
    u = seen_of ns es₁ c

    twins : Twin c.attributes t u
    twins = record { nodes = refl; count = refl; like = w }

    cs : List Cut
    cs = all_passes chars values t

    last : Tree
    last = applied t cs

    like : Like c.attributes last.attributes es₂
    like = subst (λ (v : Tree). Like c.attributes last.attributes v.attributes)
        (sym (e ∙ ap (applied u) (twin-passes c.attributes chars values (1 ∷ 2 ∷ 3 ∷ 4 ∷ 5 ∷ 6 ∷ []) t u twins)))
        (twin-applied c.attributes cs t u twins).like

    plain : (j : ℕ) → j < c.attributes → get_or last.attributes (5 * j + 1) 0 ≤ 1
    plain j l = omega (arith, (ids-applied size chars cs t g).words j, low j l)
