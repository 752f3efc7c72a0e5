-- The nodes from one up to another are looked through, one after another. Assumes nothing.
use mathlib.Core.Path.{◌≡◌, refl, sym, ap, ◌∙◌, subst}
use mathlib.Core.Bool.{Bool, false}
use mathlib.Core.List.{List, [], ◌∷◌}
use Prim.Native.Nat.{ℕ, zero, suc, ◌+◌, ◌-◌, ◌<◌, ◌≤◌}
use native.Mathlib.Omega.{arith}
use native.Mathlib.Decide.{ℕ_discrete, dec_lt}
use lib.ListN.{length}
use Rattle.model.specs.Base.{pick}
use Rattle.model.specs.Drawing.{Value}
use Rattle.model.specs.Tables.{Tree}
use Rattle.model.specs.Repair.{up_from, descendants, Cut, cut_at, applied}
use Rattle.model.proofs.Theorems.Inside.{all-inside}
use Rattle.model.proofs.Theorems.Images.{values-bare}
use Rattle.model.specs.Theorems.GoingOn.{passing, leads_to, cuts_along}
use Rattle.ids.specs.declared.heads.Heads.{Heads}
use Rattle.script.specs.Step.{document}
use Rattle.script.specs.declared.drawing.Drawing.{Drawing}
use Rattle.tree.specs.declared.Counts.{Counts}
use Rattle.leads.specs.Links.{values_of}
use Rattle.targets.specs.Targets.{seen_of}
use Rattle.targets.proofs.Passes.{no-id}
use Rattle.targets.specs.Pass.{pass_number}
use Rattle.places.specs.declared.marks.Marks.{Marks}
use Rattle.cuts.specs.declared.Aim.{Aim}
use Rattle.cuts.specs.Seen.{Cuttable, Aimed, cut_back, cut_nodes, Range, Silent, Quiet, Remembered, Onward}
use Rattle.cuts.proofs.Writing.{cuttable-on, long-on}
use Rattle.cuts.proofs.Descending.{up_step, up_none, range_same}
use Rattle.cuts.proofs.Turning.{back-kept, back-cuts, back-aimed, back-still, back-turn}
use Rattle.cuts.proofs.Quieting.{remembered-silent, back-quiet}

-- Numbers that do not pass are passed over.
passing-over : (f : ℕ → Bool) (end n a : ℕ) → a + n ≤ end → ((x : ℕ) → a ≤ x → x < a + n → f x ≡ false)
    → passing f (up_from a (end - a)) ≡ passing f (up_from (a + n) (end - (a + n)))
unfolding passing
passing-over f end zero a l h = let e : a ≡ a + 0 = omega arith in ap (λ (x : ℕ). passing f (up_from x (end - x))) e
passing-over f end (suc n) a l h =
    let e : a + 1 + n ≡ a + suc n = omega arith in
    ap (passing f) (up_step a end (omega arith)) ∙ rw (h a (omega arith) (omega arith))
    (passing-over f end n (a + 1) (omega arith) (λ x p q. h x (omega arith) (omega arith))
    ∙ ap (λ (x : ℕ). passing f (up_from x (end - x))) e)

-- ONE TURN

module _ (drawing : Drawing) (ns es : List ℕ) (c : Counts) (aim : Aim) (m end : ℕ) (l : m < end) where
  abbrev values : List Value
  values = values_of drawing

  -- One node further.
  pub onward-one : Onward drawing.characters.now values (pass_number aim.pass) (seen_of ns es c) aim.element m end (m + 1)
  onward-one = record { low = omega arith; high = omega arith; none = λ x p q. absurd (omega arith) }

  -- Behind a range.
  module _ (ws : List ℕ) (g : Quiet drawing.characters.now values (pass_number aim.pass) (seen_of ns es c) aim.element ws) (h : end ≤ c.nodes) (n : ℕ)
      (o : m < n) (k : Remembered ws m n) where
    pub range-kept : Aimed drawing.characters.now (seen_of ns es c) aim
        → seen_of ns es c ≡ cut_back drawing.characters.now values (pass_number aim.pass) aim.element (seen_of ns es c) m
    range-kept a =
        back-kept drawing ns es c aim a m
        (remembered-silent drawing.characters.now values (pass_number aim.pass) (seen_of ns es c) aim.element ws g m n (omega arith) k m (omega arith) o)

    pub onward-range : (r : ℕ) → m < r → r ≤ n → r ≤ end → Onward drawing.characters.now values (pass_number aim.pass) (seen_of ns es c) aim.element m end r
    onward-range r p q e = record {
      low = p;
      high = e;
      none = λ x y z. remembered-silent drawing.characters.now values (pass_number aim.pass) (seen_of ns es c) aim.element ws g m n (omega arith) k x
          (omega arith) (omega arith);
    }

-- THE LOOP

-- In the middle of the nodes from w up to the node `end`: m is next, those before it do not lead back, the words tell ranges of nodes that
-- do not, and what is still to do leaves what all of it leaves.
pub record Cutting (drawing : Drawing) (marks : Marks) (heads : Heads) (ns : List ℕ) (c : Counts) (aim : Aim) (w end : ℕ) (ws es₀ es : List ℕ)
    (m : ℕ) : Type 0 where
  pub cuttable : Cuttable drawing marks heads ns es c (pass_number aim.pass)
  pub aimed : Aimed drawing.characters.now (seen_of ns es c) aim
  pub quiet : Quiet drawing.characters.now (values_of drawing) (pass_number aim.pass) (seen_of ns es c) aim.element ws
  pub high : m ≤ end
  pub inside : end ≤ c.nodes
  pub long : length es ≡ length es₀
  pub still : (x : ℕ) → w ≤ x → x < m → leads_to drawing.characters.now (values_of drawing) (pass_number aim.pass) (seen_of ns es c) aim.element x
      ≡ false
  pub same : cut_nodes drawing.characters.now (values_of drawing) (pass_number aim.pass) (seen_of ns es c)
      (passing (leads_to drawing.characters.now (values_of drawing) (pass_number aim.pass) (seen_of ns es c) aim.element) (up_from m (end - m)))
      ≡ cut_nodes drawing.characters.now (values_of drawing) (pass_number aim.pass) (seen_of ns es₀ c)
      (passing (leads_to drawing.characters.now (values_of drawing) (pass_number aim.pass) (seen_of ns es₀ c) aim.element) (up_from w (end - w)))

pub cutting-first : (drawing : Drawing) (marks : Marks) (heads : Heads) (ns : List ℕ) (c : Counts) (aim : Aim) (w end : ℕ) (ws es : List ℕ)
    → Cuttable drawing marks heads ns es c (pass_number aim.pass) → Aimed drawing.characters.now (seen_of ns es c) aim
    → Quiet drawing.characters.now (values_of drawing) (pass_number aim.pass) (seen_of ns es c) aim.element ws → Range ns c.nodes w end
    → Cutting drawing marks heads ns c aim w end ws es es w
cutting-first drawing marks heads ns c aim w end ws es g a q r = record {
  cuttable = g;
  aimed = a;
  quiet = q;
  high = omega (arith, r.low);
  inside = r.high;
  long = refl;
  still = λ x p q. absurd (omega arith);
  same = refl;
}

module _ (drawing : Drawing) (marks : Marks) (heads : Heads) (ns : List ℕ) (c : Counts) (aim : Aim) (w end : ℕ) (ws es₀ es : List ℕ) (m : ℕ)
    (q : Cutting drawing marks heads ns c aim w end ws es₀ es m) where
  pub cutting-turn : (es' : List ℕ)
      → seen_of ns es' c ≡ cut_back drawing.characters.now (values_of drawing) (pass_number aim.pass) aim.element (seen_of ns es c) m
      → (r : ℕ) → Onward drawing.characters.now (values_of drawing) (pass_number aim.pass) (seen_of ns es c) aim.element m end r
      → Cutting drawing marks heads ns c aim w end ws es₀ es' r
  cutting-turn es' e r o =
      let t : Tree = seen_of ns es c in
      let vs : List Value = values_of drawing in
      let bare = values-bare (length drawing.characters.now) (document drawing) (all-inside drawing.script.now drawing.characters.now q.cuttable.mendable.drawn.checked) in
      let other = no-id (pass_number aim.pass) in
      let g = q.cuttable.mendable.tidy in
      let cs : List Cut = pick (leads_to drawing.characters.now vs (pass_number aim.pass) t aim.element m) (λ u. cut_at t (pass_number aim.pass) m ∷ [])
      (λ u. []) in
      let d : seen_of ns es' c ≡ applied t cs = e ∙ back-cuts (length drawing.characters.now) drawing.characters.now vs bare (pass_number aim.pass) aim.element other t g m in
      let next : Tree = cut_back drawing.characters.now vs (pass_number aim.pass) aim.element t m in
      let z : m + 1 + (r - (m + 1)) ≡ r = omega (arith, o.low) in
      record {
        cuttable = cuttable-on drawing marks heads ns es c cs es' d (pass_number aim.pass) q.aimed.first q.aimed.last q.cuttable;
        aimed = subst (λ (u : Tree). Aimed drawing.characters.now u aim) (sym e)
            (back-aimed (length drawing.characters.now) drawing.characters.now vs bare (pass_number aim.pass) aim.element other t g m aim q.aimed);
        quiet = subst (λ (u : Tree). Quiet drawing.characters.now vs (pass_number aim.pass) u aim.element ws) (sym e)
            (back-quiet (length drawing.characters.now) drawing.characters.now vs bare (pass_number aim.pass) aim.element other t g ws q.quiet m);
        high = o.high;
        inside = q.inside;
        long = long-on drawing marks heads ns es c cs es' d ∙ q.long;
        still = λ x a b. ap (λ (u : Tree). leads_to drawing.characters.now vs (pass_number aim.pass) u aim.element x) e
            ∙ back-still (length drawing.characters.now) drawing.characters.now vs bare (pass_number aim.pass) aim.element other t g m x (before x a b (dec_lt x m));
        same =
            ap (λ (u : Tree). cut_nodes drawing.characters.now vs (pass_number aim.pass) u
            (passing (leads_to drawing.characters.now vs (pass_number aim.pass) u aim.element) (up_from r (end - r)))) e
            ∙ sym (ap (cut_nodes drawing.characters.now vs (pass_number aim.pass) next)
            (passing-over (leads_to drawing.characters.now vs (pass_number aim.pass) next aim.element) end (r - (m + 1)) (m + 1) (omega
            (arith, o.low, o.high))
            (λ x a b. back-still (length drawing.characters.now) drawing.characters.now vs bare (pass_number aim.pass) aim.element other t g m x
            (λ n. o.none x (omega arith) (omega (arith, z))))
            ∙ ap (λ (x : ℕ). passing (leads_to drawing.characters.now vs (pass_number aim.pass) next aim.element) (up_from x (end - x))) z))
            ∙ sym (back-turn (length drawing.characters.now) drawing.characters.now vs bare (pass_number aim.pass) aim.element other t g m (end - (m + 1)))
            ∙ ap (λ (xs : List ℕ). cut_nodes drawing.characters.now vs (pass_number aim.pass) t (passing (leads_to drawing.characters.now vs
            (pass_number aim.pass) t aim.element) xs))
            (sym (up_step m end (omega (arith, o.low, o.high))))
            ∙ q.same;
      }
    where
      before : (x : ℕ) → w ≤ x → x < r → Dec (x < m)
          → (x ≡ m → ⊥) → leads_to drawing.characters.now (values_of drawing) (pass_number aim.pass) (seen_of ns es c) aim.element x ≡ false
      before x a b (yes d) n = q.still x a d
      before x a b (no d) n = o.none x (further (ℕ_discrete x m)) b
        where
          further : Dec (x ≡ m) → m < x
          further (yes y) = absurd (n y)
          further (no y) = omega arith

  pub cutting-done : end ≤ m → Range ns c.nodes w end
      → seen_of ns es c ≡ cut_nodes drawing.characters.now (values_of drawing) (pass_number aim.pass) (seen_of ns es₀ c)
      (passing (leads_to drawing.characters.now (values_of drawing) (pass_number aim.pass) (seen_of ns es₀ c) aim.element) (descendants
      (seen_of ns es₀ c) w))
  unfolding passing cuts_along applied
  cutting-done l r =
      sym (ap (λ (xs : List ℕ). cut_nodes drawing.characters.now (values_of drawing) (pass_number aim.pass) (seen_of ns es c)
      (passing (leads_to drawing.characters.now (values_of drawing) (pass_number aim.pass) (seen_of ns es c) aim.element) xs)) (up_none m end l))
      ∙ q.same
      ∙ ap (λ (xs : List ℕ). cut_nodes drawing.characters.now (values_of drawing) (pass_number aim.pass) (seen_of ns es₀ c)
      (passing (leads_to drawing.characters.now (values_of drawing) (pass_number aim.pass) (seen_of ns es₀ c) aim.element) xs))
      (sym (range_same (seen_of ns es₀ c) w end r))

  -- Behind all of them none leads back.
  pub cutting-silent : end ≤ m → Silent drawing.characters.now (values_of drawing) (pass_number aim.pass) (seen_of ns es c) aim.element w end
  cutting-silent l = record { none = λ x a b. q.still x a (omega arith) }
