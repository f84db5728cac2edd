-- The text of a picture, in the language SVG.
use Rattle.std.specs.Prelude.{ℕ, ◌+◌, ◌*◌, ◌==◌, ◌&&◌, nat_le, List, [], ◌∷◌, ◌++◌, length, codes}
use Rattle.std.specs.Prelude.{flat_map, if◌then◌else◌}
use Rattle.std.specs.Fmt.{decimal}
use Rattle.mqb_svg.specs.declared.sides.Side.{Side}
use Rattle.mqb_svg.specs.declared.sides.Side.TheVariants as side
use Rattle.mqb_svg.specs.declared.fates.Fate.{Fate}
use Rattle.mqb_svg.specs.declared.fates.Fate.TheVariants as fate
use Rattle.mqb_svg.specs.declared.marks.Mark.{Mark}
use Rattle.mqb_svg.specs.declared.marks.Mark.TheVariants as mark
use Rattle.mqb_svg.specs.declared.elements.Element.{Element}
use Rattle.mqb_svg.specs.declared.elements.Element.TheVariants.{Arrow, Note, Bar, End}
use Rattle.mqb_svg.specs.Sides.{other}

-- Texts without markup.

-- a byte of a text: what markup is made of becomes its name, and what no text may
-- hold a question mark
abbrev pub escaped_byte : ℕ → List ℕ
escaped_byte b = if b == 38 then codes "&amp;"
    else if b == 60 then codes "&lt;"
    else if b == 62 then codes "&gt;"
    else if b == 34 then codes "&quot;"
    else if b == 39 then codes "&#39;"
    else if nat_le 32 b && nat_le b 126 then b ∷ []
    else codes "?"

unfoldable pub escaped : List ℕ → List ℕ
escaped text = flat_map escaped_byte text

-- A shape at a place, and the beginning of a text in its colour.
unfoldable pub shape_text : List ℕ → List ℕ → List ℕ
shape_text name place = codes "<use href='#" ++ name ++ place ++ name ++ codes "'>"

-- Marks on the lifelines, with texts beside them.

abbrev pub mark_name : Mark → List ℕ
mark_name mark.Commit = codes "commit"
mark_name mark.Put = codes "put"
mark_name mark.Refusal = codes "refusal"
mark_name mark.Stop = codes "stop"
mark_name mark.Restart = codes "restart"
mark_name mark.Plain = codes "plain"

-- the place of a mark, and of the text beside it
abbrev pub mark_place : Side → List ℕ
mark_place side.Alpha = codes "' x='500'/><text x='486' y='4' text-anchor='end' class='"
mark_place side.Beta = codes "' x='880'/><text x='894' y='4' class='"

unfoldable pub mark_text : Side → Mark → List ℕ → List ℕ
mark_text side mark text =
    shape_text (mark_name mark) (mark_place side) ++ escaped text ++ codes "</text>"

-- Arrows.

abbrev pub fate_name : Fate → List ℕ
fate_name fate.Came = codes "came"
fate_name fate.Lost = codes "lost"
fate_name fate.Repeated = codes "repeated"
fate_name fate.Late = codes "late"

-- what stands behind the number of a packet
abbrev pub fate_word : Fate → List ℕ
fate_word fate.Came = []
fate_word fate.Lost = codes " lost: "
fate_word fate.Repeated = codes " again"
fate_word fate.Late = codes " late"

-- an arrow is drawn from alpha, and turned round where it comes from beta; its label
-- stands near its sender
abbrev pub arrow_place : Side → List ℕ
arrow_place side.Alpha = codes "'/><text x='590' y='-7' text-anchor='middle' class='label "
arrow_place side.Beta =
    codes "' transform='matrix(-1 0 0 1 1380 0)'/><text x='790' y='-7' text-anchor='middle' class='label "

unfoldable pub arrow_text : Side → ℕ → Fate → List ℕ
arrow_text from k fate =
    shape_text (fate_name fate) (arrow_place from) ++ decimal k ++ fate_word fate

-- what stands behind the label of an arrow: a lost packet ends on its way, and any other comes to
-- the other side, which answers
abbrev pub landing : Side → Fate → Mark → List ℕ → List ℕ
landing from fate.Lost mark text = escaped text ++ codes "</text>"
landing from _ mark text = codes "</text>" ++ mark_text (other from) mark text

-- Rows.

unfoldable pub bar_text : List ℕ → List ℕ
bar_text text =
    codes "<rect x='492' y='-10' width='396' height='20' rx='4' fill='#e0e7ff' stroke='#a5b4fc'/>"
    ++ codes "<text x='690' y='4' text-anchor='middle' class='plain'>" ++ escaped text
    ++ codes "</text>"

-- the number of a line, in the margin
unfoldable pub line_text : ℕ → List ℕ
line_text n = codes "<text class='line' x='14' y='4'>" ++ decimal n ++ codes "</text>"

unfoldable pub element_text : Element → List ℕ
element_text (Arrow n from k fate mark text) =
    line_text n ++ arrow_text from k fate ++ landing from fate mark text
element_text (Note n side mark text) = line_text n ++ mark_text side mark text
element_text (Bar n text) = line_text n ++ bar_text text
element_text (End text) = bar_text text

-- the row of an element, so far below the top
unfoldable pub row_text : ℕ → Element → List ℕ
row_text y element = codes "<g transform='translate(0 " ++ decimal y ++ codes ")'>"
    ++ element_text element ++ codes "</g>\n"

abbrev pub ROW : ℕ
ROW = 28

abbrev pub rows_from : ℕ → List Element → List ℕ
rows_from y [] = []
rows_from y (element ∷ elements) = row_text y element ++ rows_from (y + ROW) elements

-- The whole.

abbrev pub TOP : ℕ
TOP = 68

unfoldable pub style_text : List ℕ
style_text = codes "' font-family='Helvetica, Arial, sans-serif' font-size='12'>\n"
    ++ codes "<title>Sequence diagram of a replay</title>\n"
    ++ codes "<style>\n"
    ++ codes ".commit{fill:#1d4ed8}.put{fill:#15803d}.refusal{fill:#b45309}.stop{fill:#b91c1c}.restart{fill:#7e22ce}.plain{fill:#374151}\n"
    ++ codes ".line{fill:#6b7280;font-size:11px}.name{fill:#111827;font-size:15px}.name,.label{font-weight:bold}\n"
    ++ codes ".arrow{fill:none;stroke-width:1.6}.came{fill:#374151}.lost{fill:#b91c1c}.repeated{fill:#7e22ce}.late{fill:#b45309}\n"
    ++ codes "</style>\n"

-- the shapes of marks and arrows, and a white ground
unfoldable pub shapes_text : List ℕ
shapes_text = codes "<defs>\n"
    ++ codes "<circle id='commit' r='5.5' fill='#1d4ed8'/>\n"
    ++ codes "<path id='put' d='M-5-5H5V5H-5z' fill='#15803d'/>\n"
    ++ codes "<path id='refusal' d='M0-7l7 7-7 7-7-7z' fill='#b45309'/>\n"
    ++ codes "<path id='stop' d='M-5-5l10 10m0-10l-10 10' stroke='#b91c1c' stroke-width='3'/>\n"
    ++ codes "<path id='restart' d='M-6 6h12l-6-12z' fill='#7e22ce'/>\n"
    ++ codes "<circle id='plain' r='3.5' fill='#374151'/>\n"
    ++ codes "<g id='came'><path class='arrow' stroke='#374151' d='M500 0H864'/><path fill='#374151' d='M873 0l-11-5v10z'/></g>\n"
    ++ codes "<g id='lost'><path class='arrow' stroke='#b91c1c' stroke-dasharray='6 4' d='M500 0H682'/><path stroke='#b91c1c' stroke-width='2.4' d='M684-6l12 12m0-12l-12 12'/></g>\n"
    ++ codes "<g id='repeated'><path class='arrow' stroke='#7e22ce' d='M500-2.5H862M500 2.5H862'/><path fill='#7e22ce' d='M873 0l-13-7v14z'/></g>\n"
    ++ codes "<g id='late'><path class='arrow' stroke='#b45309' d='M500 0Q690 20 864 1'/><path fill='#b45309' d='M873 0l-12-3.5 1.3 9.8z'/></g>\n"
    ++ codes "</defs>\n"
    ++ codes "<path fill='#fff' d='M0 0H1380V9999999H0z'/>\n"

unfoldable pub names_text : List ℕ
names_text = codes "'/>\n"
    ++ codes "<path fill='#e5e7eb' stroke='#9ca3af' d='M450 14h100v30h-100zM830 14h100v30h-100z'/>\n"
    ++ codes "<g class='name' text-anchor='middle'><text x='500' y='34'>alpha</text><text x='880' y='34'>beta</text></g>\n"

unfoldable pub lifelines_text : ℕ → List ℕ
lifelines_text height = codes "<path stroke='#9ca3af' stroke-width='1.5' d='M500 44V"
    ++ decimal height ++ codes "M880 44V" ++ decimal height ++ names_text

unfoldable pub head_text : ℕ → List ℕ
head_text height = codes "<svg xmlns='http://www.w3.org/2000/svg' viewBox='0 0 1380 "
    ++ decimal height ++ style_text ++ shapes_text ++ lifelines_text height

unfoldable pub svg_of : List Element → List ℕ
svg_of elements =
    head_text (TOP + ROW * length elements) ++ rows_from TOP elements ++ codes "</svg>\n"

-- the greatest number of elements of a picture
abbrev pub MOST_ELEMENTS : ℕ
MOST_ELEMENTS = 4096
