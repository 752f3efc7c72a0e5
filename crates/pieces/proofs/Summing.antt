-- The texts inside an element, one after another: how many bytes they have. Assumes nothing.
use Prim.Native.Nat.{ℕ, ◌+◌, ◌*◌, ◌≤◌}
use mathlib.Core.Path.{◌≡◌, ap, subst}
use native.Mathlib.Omega.{arith}
use Rattle.model.specs.Drawing.{texts_in}
use Rattle.model.specs.Text.{total_size}
use Rattle.script.specs.declared.drawing.Drawing.{Drawing}
use Rattle.script.specs.declared.cursor.Cursor.{Cursor}
use Rattle.script.specs.Step.{Fit}
use Rattle.std.specs.Prelude.{Option, Some, None}
use Rattle.walk.specs.declared.node.TextAt.{TextAt}
use Rattle.walk.specs.Values.{events_at}
use Rattle.walk.specs.Nodes.{sources_of, TextFit}
use Rattle.pieces.specs.Quotes.{texts_from}

-- What next_text says of its answer.
abbrev pub TextIs : Drawing → Cursor → ℕ → Option TextAt → Type 0
TextIs drawing c k r = (sources_of drawing r ≡ texts_in k (events_at drawing c)) × TextFit drawing c r

pub text-told : (drawing : Drawing) (c : Cursor) (k : ℕ) (r x : Option TextAt) → r ≡ x → TextIs drawing c k r → TextIs drawing c k x
text-told drawing c k r x e h = subst (TextIs drawing c k) e h

-- The bytes of the texts up to c, with k elements open there. A command takes a byte of the script, and a text has fewer than 2^32.
pub record Summed (drawing : Drawing) (from c : Cursor) (k sum : ℕ) : Type 0 where
  pub fit : Fit drawing c
  pub low : k ≤ c.at
  pub most : sum ≤ c.at * 4294967296
  pub same : sum + total_size (texts_in k (events_at drawing c)) ≡ total_size (texts_from drawing from)

module _ (drawing : Drawing) (from c : Cursor) (k sum : ℕ) (w : Summed drawing from c k sum) where
  pub summed-more : (x : TextAt) → x.len ≤ 4294967295 → TextIs drawing c k (Some x) →
      Summed drawing from x.behind x.open_elements (sum + x.len)
  unfolding total_size
  summed-more x h t = record {
    fit = t.1.behind.fit;
    low = t.1.low;
    most = omega (arith, w.most, t.1.behind.further);
    same = let e : x.len + total_size (texts_in x.open_elements (events_at drawing x.behind)) ≡ total_size (texts_in k (events_at drawing c)) = ap total_size t.0 in
        omega (arith, w.same);
  }

  pub summed-all : TextIs drawing c k None → sum ≡ total_size (texts_from drawing from)
  unfolding total_size
  summed-all t =
      let e : 0 ≡ total_size (texts_in k (events_at drawing c)) = ap total_size t.0 in
      omega (arith, w.same)
