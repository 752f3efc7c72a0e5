-- One drawing with a figure that is exchanged, computed: two text elements, of which the second quotes the figure by a tref.
-- What is computed of it is claimed in proofs/Example.antt.
use Rattle.std.specs.Prelude.{ℕ, List, [], ◌∷◌, map}
use Rattle.model.specs.EId
use Rattle.model.specs.AId
use Rattle.model.specs.Drawing.{Source}
use Rattle.model.specs.Build.{Result, build, exchange}
use Rattle.model.specs.Noted.{Note, sources, notes}
use Rattle.model.specs.Cases.{Piece, ascii, svg, el, attr, attr_in, read, say}

-- The drawing: a weight in a text of its own, and a load that a second text element quotes.
unfoldable pub drawing : Piece
drawing =
    svg (el EId.Text (say "12 kg" ∷ []) ∷
    el EId.Text (say "load " ∷ el EId.Tref (attr_in 2 AId.Href "#load" ∷ read 1 1 4 ∷ []) ∷ []) ∷
    el EId.G (attr AId.Id "load" ∷ say "7 kg" ∷ []) ∷ [])

-- Tables of that many words and bytes.
abbrev pub words : ℕ
words = 80

-- The load is text 3, behind the characters of all other strings.
unfoldable pub load : Source
load = record { number = 3; start = 19; size = 4 }

-- The new load.
unfoldable pub heavier : List ℕ
heavier = ascii "9 kg"

-- The build of the drawing.
unfoldable pub before : Result
before = build drawing.script drawing.chars words words words

-- The drawing with the new load, exchanged in the tables that the build left.
unfoldable pub after : Result
after =
    exchange drawing.script drawing.chars 3 heavier before.tree.nodes before.tree.attributes before.tree.text

-- What each text node is made from, the last node first: its index, then the numbers of the texts.
unfoldable pub made : List (List ℕ)
made = map (λ (x : Note). x.node ∷ sources x) (notes drawing.script drawing.chars words words words)
