-- A picture is well-formed XML: one law for each of its parts.
use Rattle.std.proofs.Common.{◌≡◌, ℕ, ◌-◌, ◌%◌, ◌==◌, if◌then◌else◌, true, false, List, [], ◌∷◌, ◌++◌, codes, refl, length}
use Rattle.std.specs.List.{enumerate_from, list_all, list_any, range_with_len}
use Rattle.std.specs.Fmt.{decimal}
use Rattle.std.specs.Str.{bytes_eq}
use Rattle.std.proofs.lemmas.List.Folds.{list_all-append}
use Rattle.picture_marks.specs.Marks.{columns_of, top}
use Rattle.picture_marks.specs.declared.marks.Heading.{Heading}
use Rattle.picture_marks.specs.declared.marks.Mark.{Mark}
use Rattle.picture_xml.specs.Xml.{IsAttributes, IsContent, IsElement, attribute, is_name, is_name_byte, is_text, is_value}
use Rattle.picture_xml.specs.Xml.IsAttributes.{bare, further}
use Rattle.picture_xml.specs.Xml.IsElement.{empty, filled}
use Rattle.picture_xml.specs.Xml.IsContent.{nothing, and_text, and_element}
use Rattle.picture_xml.proofs.Wells.{content-append, contents, decimal_is_text, decimal_is_value, name_is_text, text_alone}
use Rattle.picture_svg.specs.declared.shapes.Area.{Area}
use Rattle.picture_svg.specs.Svg.{area_attributes, axis, backdrop, column, columns_text, first_at, frame, head, hue, label, label_attributes, last_at, lines, part, part_height, parts, records, rect, rows_text, said, strip_end, summary, sums, svg, svg_attributes, track, tracks, view}

numbered : {names : List (List ℕ)} {others : List ℕ} (name : List ℕ) (n : ℕ) → IsAttributes names others → is_name name ≡ true → list_any (bytes_eq name) names ≡ false
    → IsAttributes (name ∷ names) (others ++ attribute name (decimal n))
numbered name n known is new = further name (decimal n) known is (decimal_is_value n) new

classed : (class : List ℕ) → is_value class ≡ true → IsAttributes (codes "class" ∷ []) (attribute (codes "class") class)
classed class is = further (codes "class") class bare refl is refl

rect_is_well : (class : List ℕ) (area : Area) → is_value class ≡ true → IsElement (rect class area)
unfolding area_attributes
rect_is_well class area is =
    let first = classed class is in
    let corner = numbered (codes "y") area.y (numbered (codes "x") area.x first refl refl) refl refl in
    empty (codes "rect") refl (numbered (codes "height") area.height (numbered (codes "width") area.width corner refl refl) refl refl)

axis_is_well : (y : ℕ) → IsElement (axis y)
unfolding axis
axis_is_well y =
    let first = classed (codes "axis") refl in
    let from = numbered (codes "y1") y (numbered (codes "x1") 160 first refl refl) refl refl in
    empty (codes "line") refl (numbered (codes "y2") y (numbered (codes "x2") 960 from refl refl) refl refl)

label_is_well : (class : List ℕ) (x y : ℕ) (inner : List ℕ) → is_value class ≡ true → is_text inner ≡ true → IsElement (label class x y inner)
unfolding label_attributes
label_is_well class x y inner is text =
    filled (codes "text") refl (numbered (codes "y") y (numbered (codes "x") x (classed class is) refl refl) refl refl) (text_alone inner text)

rows_are_text : (count : ℕ) → is_text (rows_text count) ≡ true
unfolding rows_text
rows_are_text count =
    let unit : is_text (if count == 1 then codes " row" else codes " rows") ≡ true = elim (count == 1) as (λ one. is_text (if one then codes " row" else codes " rows") ≡ true) [ true ↦ refl | false ↦ refl ] in
    simp (list_all-append, decimal_is_text, unit)

summary_is_text : (name : List ℕ) (count : ℕ) → is_text name ≡ true → is_text (summary name count) ≡ true
unfolding summary
summary_is_text name count is = simp (list_all-append, rows_are_text, is)

sums_are_text : (heading : Heading) → is_text (sums heading) ≡ true
unfolding sums
sums_are_text heading = simp (list_all-append, decimal_is_text)

records_are_text : (marks : List Mark) → is_text (records marks) ≡ true
unfolding records
records_are_text marks =
    let one = codes "record " ++ decimal (first_at marks) in
    let more = codes "records " ++ decimal (first_at marks) ++ codes " to " ++ decimal (last_at marks) ++ codes ", " ++ rows_text (length marks) in
    let one_is : is_text (codes "record " ++ decimal (first_at marks)) ≡ true = decimal_is_text (first_at marks) in
    let more_is : is_text (codes "records " ++ decimal (first_at marks) ++ codes " to " ++ decimal (last_at marks) ++ codes ", " ++ rows_text (length marks)) ≡ true = simp (list_all-append, decimal_is_text, rows_are_text) in
    elim (length marks == 1) as (λ alone. is_text (if alone then one else more) ≡ true) [ true ↦ one_is | false ↦ more_is ]

said_is_text : (marks : List Mark) → is_text (said marks) ≡ true
unfolding said
said_is_text marks = simp (list_all-append, decimal_is_text, records_are_text)

head_is_well : (name : List ℕ) (count : ℕ) (heading : Heading) → is_text name ≡ true → IsContent (head name count heading)
unfolding head
head_is_well name count heading is =
    let text : is_text (summary name count ++ codes ", " ++ sums heading) ≡ true = (let first = summary_is_text name count is in simp (list_all-append, first, sums_are_text)) in
    and_element (and_element nothing (filled (codes "title") refl bare (text_alone _ text))) (filled (codes "style") refl bare (text_alone _ refl))

lines_are_well : (name : List ℕ) (count : ℕ) (heading : Heading) → is_text name ≡ true → IsContent (lines name count heading)
unfolding lines
lines_are_well name count heading is =
    and_element (and_element nothing (label_is_well (codes "name") 24 40 (summary name count) refl (summary_is_text name count is))) (label_is_well (codes "sums") 24 76 (sums heading) refl (sums_are_text heading))

frame_is_well : (peak : ℕ) → IsContent (frame peak)
unfolding frame
frame_is_well peak =
    let above = and_element (and_element nothing (axis_is_well 136)) (label_is_well (codes "start") 160 128 (decimal peak) refl (decimal_is_text peak)) in
    let below = and_element (and_element above (axis_is_well 436)) (label_is_well (codes "end") 148 444 (codes "0") refl refl) in
    and_element below (label_is_well (codes "caption") 560 468 (codes "in the order of the trace") refl refl)

backdrop_is_well : (workers : ℕ) → IsElement (backdrop workers)
unfolding backdrop
backdrop_is_well workers = rect_is_well (codes "backdrop") _ refl

track_is_well : (worker : ℕ) → IsContent (track worker)
unfolding track
track_is_well worker =
    and_text (codes "\n") (and_element (and_element nothing (label_is_well (codes "end") 148 _ (codes "worker " ++ decimal worker) refl (decimal_is_text worker))) (rect_is_well (codes "track") _ refl)) refl

tracks_are_well : (workers : ℕ) → IsContent (tracks workers)
unfolding tracks
tracks_are_well workers = contents track track_is_well (range_with_len 0 workers)

part_is_well : (x width count : ℕ) (share : ℕ × ℕ) → IsContent (part x width count share)
unfolding part
part_is_well x width count (worker, own) =
    let area : Area = record { x = x; y = strip_end worker - part_height count own; width = width; height = part_height count own } in
    elim (own == 0) as (λ none. IsContent (if none then [] else rect (hue worker) area)) [ true ↦ nothing | false ↦ and_element nothing (rect_is_well (hue worker) area (decimal_is_value (worker % 8))) ]

parts_are_well : (workers x width : ℕ) (marks : List Mark) → IsContent (parts workers x width marks)
unfolding parts
parts_are_well workers x width marks = contents (part x width (length marks)) (part_is_well x width (length marks)) _

column_is_well : (workers peak count : ℕ) (numbered : ℕ × List Mark) → IsContent (column workers peak count numbered)
unfolding column
column_is_well workers peak count (i, marks) =
    let title = filled (codes "title") refl bare (text_alone (said marks) (said_is_text marks)) in
    let drawn = and_element (and_element nothing title) (rect_is_well (codes "span") _ refl) in
    and_text (codes "\n") (and_element nothing (filled (codes "g") refl bare (content-append drawn (parts_are_well workers _ _ marks)))) refl

columns_are_well : (workers peak : ℕ) (columns : List (List Mark)) → IsContent (columns_text workers peak columns)
unfolding columns_text
columns_are_well workers peak columns = contents (column workers peak (length columns)) (column_is_well workers peak (length columns)) (enumerate_from 0 columns)

view_is_well : {names : List (List ℕ)} {others : List ℕ} (workers : ℕ) → IsAttributes names others → list_any (bytes_eq (codes "viewBox")) names ≡ false → IsAttributes (codes "viewBox" ∷ names) (others ++ view workers)
unfolding view
view_is_well workers known new = further (codes "viewBox") _ known refl (decimal_is_value _) new

pub svg_is_well : (name : List ℕ) (heading : Heading) (workers : ℕ) (marks : List Mark) → list_all is_name_byte name ≡ true → IsElement (svg name heading workers marks)
unfolding svg svg_attributes
svg_is_well name heading workers marks is =
    let text = name_is_text name is in
    let attributes = further (codes "role") (codes "img") (view_is_well workers (further (codes "xmlns") (codes "http://www.w3.org/2000/svg") bare refl refl refl) refl) refl refl refl in
    let above = content-append (content-append (and_element (head_is_well name (length marks) heading text) (backdrop_is_well workers)) (lines_are_well name (length marks) heading text)) (frame_is_well (top heading marks)) in
    filled (codes "svg") refl attributes (content-append (content-append (and_text (codes "\n") above refl) (tracks_are_well workers)) (columns_are_well workers (top heading marks) (columns_of 200 marks)))
