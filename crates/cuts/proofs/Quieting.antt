-- Ranges that are remembered: nothing in them leads back. Assumes nothing.
use mathlib.Core.Path.{◌≡◌, refl, sym, ap, ◌∙◌, subst}
use mathlib.Core.Bool.{Bool, true, false}
use mathlib.Core.Logic.{◌⊎◌, inl, inr}
use mathlib.Core.List.{List, [], ◌∷◌}
use Prim.Native.Nat.{ℕ, zero, suc, ◌+◌, ◌-◌, ◌*◌, ◌/◌, ◌%◌, ◌<◌, ◌≤◌}
use native.Mathlib.Omega.{arith}
use native.Mathlib.Decide.{dec_lt}
use borrow.Author.Tests.{lt-leb}
use lib.Dec.{eqb, leb}
use lib.ListN.{get_or, set}
use Rattle.model.specs.Base.{pick}
use Rattle.model.specs.AId
use Rattle.model.specs.Drawing.{Value, readings_of}
use Rattle.model.specs.Tables.{Tree, word, parent_of, attribute_id, set_none}
use Rattle.model.specs.Repair.{up_from, below_from, descendants, cut_name, cut_at, apply_cut, applied}
use Rattle.model.specs.Theorems.Kept.{Tidy}
use Rattle.model.proofs.Theorems.Agree.{set_cases}
use Rattle.model.specs.Theorems.GoingOn.{passing, leads_to, cuts_along}
use Rattle.cuts.specs.Seen.{cut_back, cut_nodes, Range, told_first, told_end, Ranges, Silent, Quiet}
use Rattle.cuts.specs.Seen.{Covered, Remembered, Told, Hushed, Spread}
use Rattle.cuts.proofs.Turning.{cut-tidy, cut-leads}

-- WHAT IS SILENT GIVES NOTHING

-- No node below i stands behind the node `end`, and none of the nodes before it passes.
module _ (t : Tree) (f : ℕ → Bool) (i end : ℕ) (closed : end < t.node_count → parent_of t end ≤ i)
    (h : (x : ℕ) → i ≤ x → x < end → f x ≡ false) where
  below_none : (n a : ℕ) → i < a → a ≤ end → a + n ≤ t.node_count → passing f (below_from t i (up_from a n)) ≡ []
  unfolding passing below_from up_from
  below_none zero a l m e = refl
  below_none (suc n) a l m e = go (dec_lt a end) (λ o. below_none n (a + 1) (omega arith) o (omega arith))
    where
      at : (o : Bool) → f a ≡ false → passing f (below_from t i (up_from (a + 1) n)) ≡ []
          → passing f (pick o (λ u. a ∷ below_from t i (up_from (a + 1) n)) (λ u. [])) ≡ []
      at true z r = rw z r
      at false z r = refl

      go : Dec (a < end) → (a + 1 ≤ end → passing f (below_from t i (up_from (a + 1) n)) ≡ [])
          → passing f (pick (leb (i + 1) (parent_of t a)) (λ u. a ∷ below_from t i (up_from (a + 1) n)) (λ u. [])) ≡ []
      go (yes d) r = at (leb (i + 1) (parent_of t a)) (h a (omega arith) d) (r (omega arith))
      go (no d) r =
          let q : a ≡ end = omega arith in
          rw (lt-leb (i + 1) (parent_of t a) (omega (arith, closed (omega arith), ap (parent_of t) q))) refl

  pub silent-none : i < end → i < t.node_count → passing f (descendants t i) ≡ []
  unfolding passing descendants
  silent-none l m = rw (h i (omega arith) l) (below_none (t.node_count - (i + 1)) (i + 1) (omega arith) (omega arith) (omega arith))

-- WHAT IS REMEMBERED

module _ (chars : List ℕ) (values : List Value) (k : ℕ) (t : Tree) (i : ℕ) where
  -- Nothing.
  pub quiet-first : (ws : List ℕ) → ((b : ℕ) → 256 * b < t.node_count → b < 4096 → get_or ws b 0 ≡ 0) → Quiet chars values k t i ws
  quiet-first ws h = record {
    ranges = record { range = λ b l m z o. absurd (z (h b l m)); closed = λ b l m z o. absurd (z (h b l m)) };
    silent = λ b l m. record { none = λ x p q. absurd (omega (arith, h b l m)) };
  }

  -- The nodes below one that is remembered do not lead back.
  pub remembered-silent : (ws : List ℕ) → Quiet chars values k t i ws → (m r : ℕ) → m < t.node_count → Remembered ws m r
      → (x : ℕ) → m ≤ x → x < r → leads_to chars values k t i x ≡ false
  remembered-silent ws g m r l c x p q =
      (g.silent (m / 256) (omega arith) c.block).none x (omega (arith, c.own)) (omega (arith, c.last))

  -- Nothing at or below a node that is covered does.
  pub covered_none : (ws : List ℕ) → Quiet chars values k t i ws → (w : ℕ) → w < t.node_count → Covered ws w
      → passing (leads_to chars values k t i) (descendants t w) ≡ []
  covered_none ws g w l c =
      silent-none t (leads_to chars values k t i) w (told_end ws (w / 256))
      (λ o. omega (arith, g.ranges.closed (w / 256) (omega arith) c.block (λ z. omega (arith, c.high, z)) o, c.low))
      (λ x p q. (g.silent (w / 256) (omega arith) c.block).none x (omega (arith, c.low)) q) c.high l

  -- One more range.
  pub quiet-more : (ws : List ℕ) → Quiet chars values k t i ws → (w end : ℕ) → Range t.nodes t.node_count w end
      → Silent chars values k t i w end → (ws' : List ℕ) → Hushed ws w end ws' → Quiet chars values k t i ws'
  quiet-more ws g w end r s ws' h = record {
    ranges = record { range = λ b l m z o. range b l m z o (h.words b); closed = λ b l m z o. closed b l m z o (h.words b) };
    silent = λ b l m. silent b l m (h.words b);
  }
    where
      ns : List ℕ
      ns = t.nodes

      n : ℕ
      n = t.node_count

      range : (b : ℕ) → 256 * b < n → b < 4096 → (get_or ws' b 0 ≡ 0 → ⊥) → get_or ws' b 0 < 536870912
          → (get_or ws' b 0 ≡ get_or ws b 0) ⊎ Told ws' w end b → Range ns n (told_first ws' b) (told_end ws' b)
      range b l m z o (inl e) =
          subst (λ (x : ℕ). Range ns n (256 * b + x / 2097152 % 256) (x % 2097152)) (sym e)
          (g.ranges.range b l m (λ y. z (e ∙ y)) (omega (arith, e)))
      range b l m z o (inr e) = rw (e.own o, e.last) r

      closed : (b : ℕ) → 256 * b < n → b < 4096 → (get_or ws' b 0 ≡ 0 → ⊥) → told_end ws' b < n
          → (get_or ws' b 0 ≡ get_or ws b 0) ⊎ Told ws' w end b → word ns (told_end ws' b) 1 ≤ told_first ws' b
      closed b l m z o (inl e) =
          subst (λ (x : ℕ). word ns (x % 2097152) 1 ≤ 256 * b + x / 2097152 % 256) (sym e)
          (g.ranges.closed b l m (λ y. z (e ∙ y)) (omega (arith, e)))
      closed b l m z o (inr e) =
          omega (arith, ap (λ (x : ℕ). word ns x 1) e.last, r.closed (omega (arith, e.last)), e.low)

      silent : (b : ℕ) → 256 * b < n → b < 4096 → (get_or ws' b 0 ≡ get_or ws b 0) ⊎ Told ws' w end b
          → Silent chars values k t i (told_first ws' b) (told_end ws' b)
      silent b l m (inl e) =
          subst (λ (x : ℕ). Silent chars values k t i (256 * b + x / 2097152 % 256) (x % 2097152)) (sym e) (g.silent b l m)
      silent b l m (inr e) = record { none = λ x p q. s.none x (omega (arith, e.low)) (omega (arith, e.last)) }

-- CUTS KEEP IT

module _ (size : ℕ) (chars : List ℕ) (values : List Value) (bare : readings_of 0 values ≡ []) (k i : ℕ)
    (other : cut_name k ≡ AId.Id → ⊥) where
  cut-quiet : (t : Tree) → Tidy size t → (ws : List ℕ) → Quiet chars values k t i ws → (m : ℕ)
      → Quiet chars values k (apply_cut t (cut_at t k m)) i ws
  unfolding apply_cut cut_at set_none
  cut-quiet t g ws q m = record {
    ranges = kept (eqb (attribute_id t m (cut_name k)) 0) q.ranges;
    silent = λ b l n. record {
      none = λ x y z. cut-leads size chars values bare k i other t g m x
          ((q.silent b (count b (eqb (attribute_id t m (cut_name k)) 0) l) n).none x y z);
    };
  }
    where
      cut : Bool → Tree
      cut o = pick o (λ u. t) (λ u. set_none (attribute_id t m (cut_name k) - 1) t)

      kept : (o : Bool) → Ranges t.nodes t.node_count ws → Ranges (cut o).nodes (cut o).node_count ws
      kept true r = r
      kept false r = r

      count : (b : ℕ) (o : Bool) → 256 * b < (cut o).node_count → 256 * b < t.node_count
      count b true l = l
      count b false l = l

  pub back-quiet : (t : Tree) → Tidy size t → (ws : List ℕ) → Quiet chars values k t i ws → (m : ℕ)
      → Quiet chars values k (cut_back chars values k i t m) i ws
  back-quiet t g ws q m = go (leads_to chars values k t i m)
    where
      go : (o : Bool) → Quiet chars values k (pick o (λ u. apply_cut t (cut_at t k m)) (λ u. t)) i ws
      go true = cut-quiet t g ws q m
      go false = q

  pub nodes-quiet : (ms : List ℕ) (t : Tree) → Tidy size t → (ws : List ℕ) → Quiet chars values k t i ws
      → Quiet chars values k (cut_nodes chars values k t ms) i ws
  unfolding cuts_along applied
  nodes-quiet [] t g ws q = q
  nodes-quiet (m ∷ ms) t g ws q =
      nodes-quiet ms (apply_cut t (cut_at t k m)) (cut-tidy size chars values bare k other t g m) ws (cut-quiet t g ws q m)

-- A word tells another range, and those behind it last parts of that.
pub hushed-spread : (ws : List ℕ) (b w end : ℕ) → b ≡ w / 256 → end < 2097152 → (ws' : List ℕ)
    → Spread (set ws b (w % 256 * 2097152 + end)) (b + 1) end ws' → Hushed ws w end ws'
hushed-spread ws b w end d l ws' h = record { words = λ x. go x (set_cases ws b (w % 256 * 2097152 + end) x) (h.words x) }
  where
    us : List ℕ
    us = set ws b (w % 256 * 2097152 + end)

    go : (x : ℕ) → (get_or us x 0 ≡ get_or ws x 0) ⊎ ((x ≡ b) × (get_or us x 0 ≡ w % 256 * 2097152 + end))
        → (get_or ws' x 0 ≡ get_or us x 0) ⊎ ((b + 1 ≤ x) × (get_or ws' x 0 ≡ 536870912 + end))
        → (get_or ws' x 0 ≡ get_or ws x 0) ⊎ Told ws' w end x
    go x (inl e) (inl f) = inl (f ∙ e)
    go x (inr e) (inl f) = inr (record {
      low = omega (arith, e.0, e.1, f, d);
      last = omega (arith, e.1, f);
      own = λ o. omega (arith, e.0, e.1, f, d);
    })
    go x e (inr f) = inr (record {
      low = omega (arith, f.0, f.1, d);
      last = omega (arith, f.1);
      own = λ o. absurd (omega (arith, f.1));
    })
