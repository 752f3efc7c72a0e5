-- The loop over the pairs. Assumes nothing.
use Prim.Native.Nat.{ℕ, zero, suc, ◌+◌, ◌-◌, ◌≤◌, ◌<◌}
use mathlib.Core.Path.{◌≡◌, refl, sym, ap, ◌∙◌}
use mathlib.Core.Bool.{Bool, true, false}
use mathlib.Core.List.{List, ◌∷◌}
use mathlib.Core.Option.{none}
use native.Mathlib.Omega.{arith}
use borrow.Author.Tests.{ne_eqb}
use lib.Dec.{eqb}
use lib.ListN.{length}
use Rattle.std.specs.Prelude.{Option, Some, IfSome}
use Rattle.model.specs.Base.{pick}
use Rattle.model.specs.Utf8.{is_blank}
use Rattle.model.specs.Tables.{Tree, TEXT, word, text_of}
use Rattle.model.specs.Text.{XmlSpace, TextNode, is_nil, text_nodes, run, pairs}
use Rattle.tree.specs.Lent.{read_of, texts_of}
use Rattle.edges.specs.declared.Pair.{Pair}
use Rattle.trimming.specs.declared.Turn.{Turn}
use Rattle.edges.specs.Pairs.{after_pair}
use Rattle.trimming.specs.Nodes.{IsTextOf, node_at, next_text, stands_by, pair_of, kept_behind}
use Rattle.trimming.proofs.Following.{kept_node, pair_at, pairs-turn}
use Rattle.trimming.proofs.Collected.{Held, held-pair, NextIn, next-in, texts-next, texts-here}
use Rattle.trimming.proofs.Collected.{texts-nil, pair-steady, fair-ranged, long-pair}
use Rattle.trimming.proofs.Turning.{stands-text}

next-same : (ns ms : List ℕ) → ((j : ℕ) → word ns j 0 ≡ word ms j 0) → (n i : ℕ) → next_text ns i n ≡ next_text ms i n
unfolding next_text
next-same ns ms h zero i = refl
next-same ns ms h (suc n) i = rw (h i) (go (eqb (word ms i 0) TEXT) (next-same ns ms h n (i + 1)))
  where
    go : (b : Bool) {x y : ℕ} → x ≡ y → pick b (λ u. i) (λ u. x) ≡ pick b (λ u. i) (λ u. y)
    go true e = refl
    go false e = e

module _ (chars es : List ℕ) (w : XmlSpace) (e n : ℕ) where
  -- The program from the text nodes a and b on.
  abbrev from : List ℕ → ℕ → ℕ → ℕ → Option ℕ → Tree → Tree
  from ns₀ first a b kept t =
      run (pairs (eqb a first) (kept_node chars (read_of ns₀ es) w e kept) (node_at chars (read_of ns₀ es) w e a)
      (text_nodes chars (read_of ns₀ es) w e b (n - b))) t

  -- The whole program.
  abbrev whole : List ℕ → List ℕ → ℕ → ℕ → Tree
  whole ns₀ bs₀ first second =
      run (pairs true none (node_at chars (read_of ns₀ es) w e first) (text_nodes chars (read_of ns₀ es) w e second (n - second)))
      (texts_of ns₀ bs₀)

  pub record Paired (first second : ℕ) (ns₀ bs₀ ns bs : List ℕ) (a b : ℕ) (kept : Option ℕ) : Type 0 where
    pub held : Held (length chars) es e n ns₀ (texts_of ns bs)
    pub long : length ns ≡ length ns₀
    pub text-long : length bs ≡ length bs₀
    pub at : IsTextOf ns₀ e n a
    pub start : first ≤ a
    pub low : a < b
    pub high : b ≤ n
    pub text : b < n → word ns₀ b 0 ≡ TEXT
    pub last : IfSome kept (IsTextOf ns₀ e n)
    pub same : from ns₀ first a b kept (texts_of ns bs) ≡ whole ns₀ bs₀ first second

  module _ (first second : ℕ) (ns₀ bs₀ ns bs : List ℕ) (a b : ℕ) (kept : Option ℕ) (p : Paired first second ns₀ bs₀ ns bs a b kept) where
    module _ (l : b < n) (next : ℕ) (found : next ≡ next_text ns (b + 1) (n - (b + 1))) (last : Bool) (ends : last ≡ eqb next n) where
      abbrev turn : Turn
      turn = record { a = a; b = b; kept = kept; first = eqb a first; last = last }

      abbrev c : ℕ
      c = stands_by ns a kept

      behind : NextIn ns (b + 1) n next
      behind = next-in ns (b + 1) n next (omega arith) found

      next-text : next < n → word ns₀ next 0 ≡ TEXT
      next-text h = sym (p.held.steady.kinds next) ∙ behind.text h

      listed : text_nodes chars (read_of ns₀ es) w e b (n - b) ≡
          node_at chars (read_of ns₀ es) w e b ∷ text_nodes chars (read_of ns₀ es) w e next (n - next)
      listed =
          texts-here chars (read_of ns₀ es) w e b n l (p.text l)
          ∙ ap (λ (m : List TextNode). node_at chars (read_of ns₀ es) w e b ∷ m)
          (texts-next chars (read_of ns₀ es) w e (b + 1) n next (omega arith)
          (found ∙ next-same ns ns₀ p.held.steady.kinds (n - (b + 1)) (b + 1)))

      -- The pair by the tables as they were at first.
      told : pair_of chars (read_of ns es) w e turn ≡
          pair_at chars (read_of ns₀ es) w e ns a b kept (eqb a first) (is_nil (text_nodes chars (read_of ns₀ es) w e next (n - next)))
      told =
          pair-steady chars ns₀ ns es p.held.steady w e turn
          ∙ ap (λ (x : Bool). pair_at chars (read_of ns₀ es) w e ns a b kept (eqb a first) x)
          (ends ∙ texts-nil chars (read_of ns₀ es) w e next n behind.high next-text)

      stand : IsTextOf ns₀ e n (stands_by ns a kept)
      stand = stands-text ns₀ ns e n a kept p.at p.last

      module _ (ns' bs' : List ℕ) (left : texts_of ns' bs' ≡ after_pair (pair_of chars (read_of ns es) w e turn) (texts_of ns bs))
          (kept' : Option ℕ)
          (new : kept' ≡ kept_behind (texts_of ns' bs') (stands_by ns a kept) kept) where
        kept-text : IfSome kept' (IsTextOf ns₀ e n)
        kept-text = rw new (go (is_blank (text_of (texts_of ns' bs') (stands_by ns a kept))))
          where
            go : (x : Bool) → IfSome (pick x (λ u. kept) (λ u. Some (stands_by ns a kept))) (IsTextOf ns₀ e n)
            go true = p.last
            go false = stand

        pub paired-turn : Paired first second ns₀ bs₀ ns' bs' b next kept'
        paired-turn = record {
          held = rw left
              (held-pair (length chars) es e n ns₀ (pair_of chars (read_of ns es) w e turn) stand.1.0 stand.1.1 l (p.text l)
              (texts_of ns bs) p.held);
          long = ap (λ (t : Tree). length t.nodes) left ∙ (long-pair (pair_of chars (read_of ns es) w e turn) (texts_of ns bs)).0 ∙ p.long;
          text-long = ap (λ (t : Tree). length t.text) left
              ∙ (long-pair (pair_of chars (read_of ns es) w e turn) (texts_of ns bs)).1 ∙ p.text-long;
          at = (omega (arith, p.at.0, p.low), (l, p.text l));
          start = omega (arith, p.start, p.low);
          low = omega (arith, behind.low);
          high = behind.high;
          text = next-text;
          last = kept-text;
          same =
              let f : eqb b first ≡ false = ne_eqb b first (λ z. omega (arith, p.start, p.low)) in
              let g = left ∙ ap (λ (x : Pair). after_pair x (texts_of ns bs)) told in
              let r = fair-ranged (length chars) ns es bs e n a p.held.fair p.at.1.0 (p.held.steady.kinds a ∙ p.at.1.1) in
              rw (f, new, g)
              (sym (pairs-turn chars (read_of ns₀ es) w e (texts_of ns bs) (eqb a first) kept a b
              (text_nodes chars (read_of ns₀ es) w e next (n - next)) r)
              ∙ ap (λ (m : List TextNode). run (pairs (eqb a first) (kept_node chars (read_of ns₀ es) w e kept)
              (node_at chars (read_of ns₀ es) w e a) m) (texts_of ns bs)) (sym listed) ∙ p.same);
        }
