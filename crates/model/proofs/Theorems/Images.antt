-- The last pass without a list: feImage may cut as it finds, since a value that is cut has no readings left.
use Prim.Native.Nat.{ℕ, zero, suc, ◌+◌, ◌-◌, ◌*◌, ◌≤◌}
use Rattle.std.specs.Prelude.{◌≡◌, Bool, false, eqb, get_or}
use Rattle.std.proofs.Math.Path.{refl, ap}
use Rattle.std.proofs.Common.{sym, ◌∙◌, eq-eqb, ne_eqb, le-leb}
use Rattle.std.proofs.Math.Bool.{true}
use mathlib.Core.List.{List, [], ◌∷◌, ◌++◌, append_assoc, map}
use native.Mathlib.Omega.{arith}
use Rattle.std.proofs.Math.Decide.{ℕ_discrete}
use Rattle.model.specs.Base.{pick, given, among}
use Rattle.model.specs.EId
use Rattle.model.specs.AId
use Rattle.model.specs.Drawing.{Reading, Value, Attribute, Declaration, Event, begin, text, other, close, readings_of, reading_of}
use Rattle.model.specs.Drawing.{values_in}
use Rattle.model.specs.Tables.{Tree, Entry, parent_of, entry_at, attribute_id, element_by_id, set_none}
use Rattle.model.specs.Repair.{up_from, all_named, any_reading, element_id, readings_of_attribute, link_of, node_attribute}
use Rattle.model.specs.Repair.{recursive_fe_image}
use Rattle.model.specs.Repair.{fe_image_links, Cut, cut_name, cut_at, apply_cut, applied, cuts_of, cuts_of_all, repairs}
use Rattle.model.specs.Theorems.Sim.{Every, Events}
use Rattle.model.proofs.Theorems.Entries.{absurd-bool}
use Rattle.model.specs.Theorems.Inside.{LiesValue, LiesElement, LiesText}
use Rattle.model.specs.Theorems.Kept.{Tidy}
use Rattle.model.proofs.Theorems.Cuts.{id_same, entry_kept, readings-kept, readings-gone, by-id-kept, element-id-kept}
use Rattle.model.proofs.Theorems.Whole.{cuts-tidy}
use Rattle.model.proofs.Theorems.GoingOn.{readings-there, given_both, cut-is, tidy-cut, cuts-going-on}
use Rattle.model.specs.Theorems.Images.{images_on, pass_on, passes_on}

filter-no-id : cut_name 6 ≡ AId.Id → ⊥
unfolding cut_name
filter-no-id e = omega arith

module _ (size : ℕ) (chars : List ℕ) (values : List Value) (bare : readings_of 0 values ≡ []) (o : Tree) where
  -- The tree t is the tree o with the filters of the nodes found so far cut; found are indexes plus 1.
  record Since (t : Tree) (found : List ℕ) : Type 0 where
    tidy : Tidy size t
    nodes : t.nodes ≡ o.nodes
    href : (i : ℕ) → node_attribute chars values t AId.Href i ≡ node_attribute chars values o AId.Href i
    id : (i : ℕ) → element_id chars t i ≡ element_id chars o i
    gone : (w : ℕ) → among w found ≡ true → readings_of_attribute chars values t AId.Filter (w - 1) ≡ []
    kept : (w : ℕ) → (w ≡ 0 → ⊥) → among w found ≡ false →
        (readings_of_attribute chars values t AId.Filter (w - 1) ≡ readings_of_attribute chars values o AId.Filter (w - 1))
        × (cut_at t 6 (w - 1) ≡ cut_at o 6 (w - 1))

  -- What a feImage gives, by where it leads and the readings found there.
  abbrev gives : ℕ → List ℕ → List Reading → ℕ
  gives w id rs = pick (eqb w 0) (λ u. 0) (λ u. pick (any_reading 4 id rs) (λ v. w) (λ v. 0))

  -- It gives nothing where the node was found before, else what it gave.
  image-since : (t : Tree) (found : List ℕ) → Since t found → (i : ℕ) →
      recursive_fe_image chars values t i
      ≡ pick (among (recursive_fe_image chars values o i) found) (λ u. 0) (λ u. recursive_fe_image chars values o i)
  unfolding recursive_fe_image any_reading
  image-since t found s i = shape ∙ go (ℕ_discrete w 0) (among w found) refl
    where
      w : ℕ
      w = node_attribute chars values o AId.Href i

      id : List ℕ
      id = element_id chars o (parent_of o i - 1)

      readings : Tree → List Reading
      readings u = readings_of_attribute chars values u AId.Filter (w - 1)

      shape : recursive_fe_image chars values t i ≡ gives w id (readings t)
      shape =
          ap (λ (x : ℕ). gives x (element_id chars t (parent_of t i - 1)) (readings_of_attribute chars values t AId.Filter (x - 1)))
          (s.href i)
          ∙ ap (λ (x : List ℕ). gives w x (readings t))
          (s.id (parent_of t i - 1) ∙ ap (λ (ns : List ℕ). element_id chars o (get_or ns (8 * i + 1) 0 - 1)) s.nodes)

      neither : (c : Bool) → ◌≡◌ {A = ℕ} 0 (pick c (λ u. 0) (λ u. 0))
      neither true = refl
      neither false = refl

      go : Dec (w ≡ 0) → (b : Bool) → among w found ≡ b →
          gives w id (readings t) ≡ pick (among (gives w id (readings o)) found) (λ u. 0) (λ u. gives w id (readings o))
      go (yes e) b a = rw (eq-eqb w 0 e) (neither (among 0 found))
      go (no e) true a = rw (ne_eqb w 0 e, s.gone w a) (inner (any_reading 4 id (readings o)))
        where
          inner : (c : Bool) → 0 ≡ pick (among (pick c (λ v. w) (λ v. 0)) found) (λ u. 0) (λ u. pick c (λ v. w) (λ v. 0))
          inner true = rw a refl
          inner false = neither (among 0 found)
      go (no e) false a = rw (ne_eqb w 0 e, (s.kept w e a).0) (inner (any_reading 4 id (readings o)))
        where
          inner : (c : Bool) →
              pick c (λ v. w) (λ v. 0) ≡ pick (among (pick c (λ v. w) (λ v. 0)) found) (λ u. 0) (λ u. pick c (λ v. w) (λ v. 0))
          inner true = rw a refl
          inner false = neither (among 0 found)

  -- One more node is cut.
  module _ (t : Tree) (found : List ℕ) (s : Since t found) (w : ℕ) (there : w ≡ 0 → ⊥) (h : attribute_id t (w - 1) AId.Filter ≡ 0 → ⊥) where
    abbrev cut : Tree
    cut = set_none (attribute_id t (w - 1) AId.Filter - 1) t

    readings-at : (x : ℕ) → (x ≡ w - 1 → ⊥) →
        readings_of_attribute chars values cut AId.Filter x ≡ readings_of_attribute chars values t AId.Filter x
    readings-at x d = readings-kept size chars values bare t s.tidy (w - 1) AId.Filter h x AId.Filter (λ e f. d e)

    href-at : (i : ℕ) → node_attribute chars values cut AId.Href i ≡ node_attribute chars values t AId.Href i
    unfolding node_attribute cut_name
    href-at i =
        given_both (link_of chars values 1 cut AId.Href i) _ _ 0
        (λ p. by-id-kept size chars values bare t s.tidy (w - 1) AId.Filter h filter-no-id p.bytes)
        ∙ ap (λ x. given (reading_of 1 x) (λ p. element_by_id chars t p.bytes) (λ u. 0))
        (readings-kept size chars values bare t s.tidy (w - 1) AId.Filter h i AId.Href (λ e f. omega arith))

    cut-at : (x : ℕ) → (x ≡ w - 1 → ⊥) → cut_at cut 6 x ≡ cut_at t 6 x
    unfolding cut_at cut_name
    cut-at x d = rw (id_same (attribute_id t (w - 1) AId.Filter - 1) t x AId.Filter) (go (ℕ_discrete (attribute_id t x AId.Filter) 0))
      where
        cut_of : ℕ → Cut
        cut_of c = record { pass = 6; node = x; command = c }

        command : Tree → ℕ
        command u = pick (eqb (attribute_id t x AId.Filter) 0) (λ y. 0) (λ y. (entry_at u (attribute_id t x AId.Filter - 1)).command)

        go : Dec (attribute_id t x AId.Filter ≡ 0) → cut_of (command cut) ≡ cut_of (command t)
        go (yes e) = rw (eq-eqb _ 0 e) refl
        go (no e) =
            ap (λ (y : Entry). cut_of (pick (eqb (attribute_id t x AId.Filter) 0) (λ z. 0) (λ z. y.command)))
            (entry_kept size chars values bare t s.tidy (w - 1) AId.Filter h x AId.Filter e (λ p q. d p))

    since-cut : Since cut (w ∷ found)
    unfolding set_none cut_name among
    since-cut = record {
      tidy = tidy-cut size chars values bare 6 filter-no-id t s.tidy (w - 1) h;
      nodes = s.nodes;
      href = λ i. href-at i ∙ s.href i;
      id = λ i. element-id-kept size chars values bare t s.tidy (w - 1) AId.Filter h filter-no-id i ∙ s.id i;
      gone = λ x b. gone x b (ℕ_discrete (x - 1) (w - 1));
      kept = λ x z b. kept x z b (ℕ_discrete x w);
    }
      where
        gone : (x : ℕ) → pick (eqb x w) (λ u. true) (λ u. among x found) ≡ true → Dec (x - 1 ≡ w - 1) →
            readings_of_attribute chars values cut AId.Filter (x - 1) ≡ []
        gone x b (yes e) = rw e (readings-gone size chars values bare t s.tidy (w - 1) AId.Filter h)
        gone x b (no e) = readings-at (x - 1) e ∙ s.gone x (rw (ne_eqb x w (λ q. e (ap (λ y. y - 1) q))) at b)

        kept : (x : ℕ) → (x ≡ 0 → ⊥) → pick (eqb x w) (λ u. true) (λ u. among x found) ≡ false → Dec (x ≡ w) →
            (readings_of_attribute chars values cut AId.Filter (x - 1) ≡ readings_of_attribute chars values o AId.Filter (x - 1))
            × (cut_at cut 6 (x - 1) ≡ cut_at o 6 (x - 1))
        kept x z b (yes e) = absurd-bool (rw (eq-eqb x w e) at b)
        kept x z b (no e) =
            let d : x - 1 ≡ w - 1 → ⊥ = λ q. omega arith in
            let r = s.kept x z (rw (ne_eqb x w e) at b) in
            (readings-at (x - 1) d ∙ r.0, cut-at (x - 1) d ∙ r.1)

  -- Where a feImage gives a node, that node's filter has readings.
  image-reads : (t : Tree) (i : ℕ) → (recursive_fe_image chars values t i ≡ 0 → ⊥) →
      readings_of_attribute chars values t AId.Filter (recursive_fe_image chars values t i - 1) ≡ [] → ⊥
  unfolding recursive_fe_image any_reading
  image-reads t i z e = go (eqb w 0) (any_reading 4 id (readings (w - 1))) refl z e
    where
      w : ℕ
      w = node_attribute chars values t AId.Href i

      id : List ℕ
      id = element_id chars t (parent_of t i - 1)

      readings : ℕ → List Reading
      readings x = readings_of_attribute chars values t AId.Filter x

      go : (b c : Bool) → any_reading 4 id (readings (w - 1)) ≡ c → (pick b (λ u. 0) (λ u. pick c (λ v. w) (λ v. 0)) ≡ 0 → ⊥) →
          readings (pick b (λ u. 0) (λ u. pick c (λ v. w) (λ v. 0)) - 1) ≡ [] → ⊥
      go true c r y q = y refl
      go false false r y q = y refl
      go false true r y q = absurd-bool (sym r ∙ ap (any_reading 4 id) q)

  images : (t : Tree) (found : List ℕ) → Since t found → (is : List ℕ) →
      map (cut_at o 6) (fe_image_links chars values o found is) ≡ images_on chars values t is
  unfolding fe_image_links images_on cut_name
  images t found s [] = refl
  images t found s (i ∷ is) = go (ℕ_discrete x 0) (among x found) refl (λ u f q. images u f q is)
    where
      x : ℕ
      x = recursive_fe_image chars values o i

      same : recursive_fe_image chars values t i ≡ pick (among x found) (λ u. 0) (λ u. x)
      same = image-since t found s i

      go : Dec (x ≡ 0) → (b : Bool) → among x found ≡ b →
          ((u : Tree) (f : List ℕ) → Since u f → map (cut_at o 6) (fe_image_links chars values o f is) ≡ images_on chars values u is) →
          map (cut_at o 6) (fe_image_links chars values o found (i ∷ is)) ≡ images_on chars values t (i ∷ is)
      go (yes e) b a r = let y : recursive_fe_image chars values t i ≡ 0 = same ∙ both (among x found) in rw (eq-eqb x 0 e, y) (r t found s)
        where
          both : (c : Bool) → pick c (λ u. 0) (λ u. x) ≡ 0
          both true = refl
          both false = e
      go (no e) true a r = let y : recursive_fe_image chars values t i ≡ 0 = rw a at same in rw (ne_eqb x 0 e, a, y) (r t found s)
      go (no e) false a r =
          let y : recursive_fe_image chars values t i ≡ x = rw a at same in
          let w = readings-there chars values bare t (x - 1) AId.Filter (rw y at (image-reads t i (λ z. e (sym y ∙ z)))) in
          let c = cut-is size chars values bare 6 filter-no-id t s.tidy (x - 1) w.entry in
          let next = r _ (x ∷ found) (since-cut t found s x e w.entry) in
          let left : map (cut_at o 6) (fe_image_links chars values o found (i ∷ is))
          ≡ cut_at o 6 (x - 1) ∷ map (cut_at o 6) (fe_image_links chars values o (x ∷ found) is) = rw (ne_eqb x 0 e, a) refl in
          let right : cut_at t 6 (x - 1) ∷ images_on chars values (apply_cut t (cut_at t 6 (x - 1))) is
          ≡ images_on chars values t (i ∷ is) =
          rw (y, ne_eqb x 0 e) refl in
          left
          ∙ ap (λ (l : List Cut). cut_at o 6 (x - 1) ∷ l) (next ∙ ap (λ (u : Tree). images_on chars values u is) (sym c))
          ∙ ap (λ (z : Cut). z ∷ images_on chars values (apply_cut t (cut_at t 6 (x - 1))) is) (sym (s.kept x e a).1)
          ∙ right

-- No pass cuts an id.
no-id : (k : ℕ) → k ≤ 6 → cut_name k ≡ AId.Id → ⊥
unfolding cut_name
no-id zero l e = omega arith
no-id (suc zero) l e = omega arith
no-id (suc (suc zero)) l e = omega arith
no-id (suc (suc (suc zero))) l e = omega arith
no-id (suc (suc (suc (suc zero)))) l e = omega arith
no-id (suc (suc (suc (suc (suc zero))))) l e = omega arith
no-id (suc (suc (suc (suc (suc (suc zero)))))) l e = omega arith
no-id (suc (suc (suc (suc (suc (suc (suc k))))))) l e = omega arith

-- THE LAW FOR EVERY PASS: a search that goes on after a cut finds the cuts of the definitions, in their order.
module _ (size : ℕ) (chars : List ℕ) (values : List Value) (bare : readings_of 0 values ≡ []) where
  pub pass-going-on : (k : ℕ) → k ≤ 6 → (t : Tree) → Tidy size t → cuts_of chars values k t ≡ pass_on chars values k t
  unfolding cuts_of pass_on among
  pass-going-on k l t g = go (ℕ_discrete k 6)
    where
      start : Since size chars values bare t t []
      start = record {
        tidy = g;
        nodes = refl;
        href = λ i. refl;
        id = λ i. refl;
        gone = λ w b. absurd-bool (sym b);
        kept = λ w z b. (refl, refl);
      }

      go : Dec (k ≡ 6) → cuts_of chars values k t ≡ pass_on chars values k t
      go (yes e) = rw e (images size chars values bare t t [] start (all_named t EId.FeImage (up_from 0 t.node_count)))
      go (no e) = rw (le-leb k 5 (omega arith)) (cuts-going-on size chars values bare k (no-id k l) t g)

  pub passes-going-on : (ks : List ℕ) → Every (λ (k : ℕ). k ≤ 6) ks → (t : Tree) → Tidy size t →
      cuts_of_all chars values ks t ≡ passes_on chars values ks t
  unfolding cuts_of_all passes_on
  passes-going-on [] h t g = refl
  passes-going-on (k ∷ ks) h t g =
      ap (λ (cs : List Cut). cs ++ cuts_of_all chars values ks (applied t cs)) (pass-going-on k h.0 t g)
      ∙ ap (λ (cs : List Cut). pass_on chars values k t ++ cs)
      (passes-going-on ks h.1 (applied t (pass_on chars values k t)) (cuts-tidy size t (pass_on chars values k t) g))

  -- All repairs of a tree.
  pub repairs-going-on : (t : Tree) → Tidy size t → repairs chars values t ≡ passes_on chars values (1 ∷ 2 ∷ 3 ∷ 4 ∷ 5 ∷ 6 ∷ []) t
  unfolding repairs
  repairs-going-on t g =
      passes-going-on (1 ∷ 2 ∷ 3 ∷ 4 ∷ 5 ∷ 6 ∷ [])
      (omega arith, (omega arith, (omega arith, (omega arith, (omega arith, (omega arith, tt)))))) t g

-- A FIXED VALUE HAS NO READINGS

bare-map : {A : Type 0} (f : A → Value) (P : A → Type 0) → ((a : A) → P a → 1 ≤ (f a).command) → (xs : List A) (ws : List Value) →
    Every P xs →
    readings_of 0 ws ≡ [] → readings_of 0 (map f xs ++ ws) ≡ []
unfolding readings_of
bare-map f P g [] ws h e = e
bare-map f P g (x ∷ xs) ws h e =
    let l = g x h.0 in rw (ne_eqb (f x).command 0 (λ z. omega arith)) (bare-map f P g xs ws h.1 e)

-- The commands of a drawing that check takes count from 1.
pub values-bare : (size : ℕ) (xs : List Event) → Events (LiesElement size) (LiesText size) xs → readings_of 0 (values_in xs) ≡ []
unfolding values_in readings_of
values-bare size [] h = refl
values-bare size (begin e ∷ xs) h =
    rw append_assoc
    (bare-map (λ (a : Attribute). a.value) (λ (a : Attribute). LiesValue size a.value) (λ a p. p.0) e.attributes _ h.0.0
    (bare-map (λ (d : Declaration). d.value) (λ (d : Declaration). LiesValue size d.value) (λ d p. p.0) e.declarations _ h.0.1
    (values-bare size xs h.1)))
values-bare size (text a ∷ xs) h = values-bare size xs h.1
values-bare size (other ∷ xs) h = values-bare size xs h
values-bare size (close ∷ xs) h = values-bare size xs h
