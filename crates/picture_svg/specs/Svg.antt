-- The picture of a tenant's rows: a frame 1000 wide, from top to bottom the heading, the columns of the rows over a line at 0, and a strip for each worker.
--     svg name heading workers marks      the whole picture
use Rattle.std.specs.Prelude.{ℕ, ◌+◌, ◌-◌, ◌*◌, ◌%◌, ◌==◌, if◌then◌else◌, max, List, [], ◌++◌, length, codes, decimal}
use Rattle.std.specs.List.{enumerate_from, flat_map, range_with_len, slice_get}
use Rattle.std.specs.Option.{option_map_or}
use Rattle.picture_marks.specs.Marks.{columns_of, greatest_of, least_of, scale, shares_of, top}
use Rattle.picture_marks.specs.declared.marks.Heading.{Heading}
use Rattle.picture_marks.specs.declared.marks.Mark.{Mark}
use Rattle.picture_xml.specs.Xml.{attribute, element, leaf}
use Rattle.picture_svg.specs.declared.heading.TheConstants.{STYLE}
use Rattle.picture_svg.specs.declared.shapes.Area.{Area}

-- where the columns begin
abbrev pub left : ℕ
left = 160

-- how much room they have
abbrev pub room : ℕ
room = 800

-- where 0 stands
abbrev pub base : ℕ
base = 436

-- how far above 0 the top of the scale stands
abbrev pub rise : ℕ
rise = 300

-- how high a strip is
abbrev pub strip : ℕ
strip = 32

-- where the strip of a worker ends: there is one every 40
abbrev pub strip_end : ℕ → ℕ
strip_end worker = 40 * worker + 520

-- how high the whole picture is
abbrev pub whole : ℕ → ℕ
whole workers = 40 * workers + 500

-- an attribute whose value is a number
abbrev pub number : List ℕ → ℕ → List ℕ
number name value = attribute name (decimal value)

-- what a rectangle is told: a class, by which the style gives its colour, and its area
unfoldable pub area_attributes : List ℕ → Area → List ℕ
area_attributes class area =
    attribute (codes "class") class ++ number (codes "x") area.x ++ number (codes "y") area.y ++ number (codes "width") area.width ++ number (codes "height") area.height

-- the rectangle itself
abbrev pub rect : List ℕ → Area → List ℕ
rect class area = leaf (codes "rect") (area_attributes class area)

-- a line from the left to the right
unfoldable pub axis : ℕ → List ℕ
axis y =
    leaf (codes "line") (
    attribute (codes "class") (codes "axis") ++ number (codes "x1") left ++ number (codes "y1") y ++ number (codes "x2") (left + room) ++ number (codes "y2") y)

-- what a text is told: a class, and the place of its line
unfoldable pub label_attributes : List ℕ → ℕ → ℕ → List ℕ
label_attributes class x y = attribute (codes "class") class ++ number (codes "x") x ++ number (codes "y") y

-- the text itself
abbrev pub label : List ℕ → ℕ → ℕ → List ℕ → List ℕ
label class x y inner = element (codes "text") (label_attributes class x y) inner

-- how many rows there are
unfoldable pub rows_text : ℕ → List ℕ
rows_text count = decimal count ++ (if count == 1 then codes " row" else codes " rows")

-- the first line of the heading: the name, and how many rows there are
unfoldable pub summary : List ℕ → ℕ → List ℕ
summary name count = name ++ codes ": " ++ rows_text count

-- the second line: the numbers of the tenant
unfoldable pub sums : Heading → List ℕ
sums heading =
    codes "opening " ++ decimal heading.opening ++ codes ", added " ++ decimal heading.added
    ++ codes ", taken " ++ decimal heading.taken ++ codes ", final " ++ decimal heading.last

-- what is not drawn: the title of the whole, which is both lines, and the style, which is a constant of the code
unfoldable pub head : List ℕ → ℕ → Heading → List ℕ
head name count heading = element (codes "title") [] (summary name count ++ codes ", " ++ sums heading) ++ element (codes "style") [] STYLE.now

-- the heading
unfoldable pub lines : List ℕ → ℕ → Heading → List ℕ
lines name count heading = label (codes "name") 24 40 (summary name count) ++ label (codes "sums") 24 76 (sums heading)

-- the lines at the top of the scale and at 0 with their numbers, and the caption
unfoldable pub frame : ℕ → List ℕ
frame peak =
    axis (base - rise) ++ label (codes "start") left (base - rise - 8) (decimal peak)
    ++ axis base ++ label (codes "end") (left - 12) (base + 8) (codes "0")
    ++ label (codes "caption") (left + 400) (base + 32) (codes "in the order of the trace")

-- what stands behind all
unfoldable pub backdrop : ℕ → List ℕ
backdrop workers = rect (codes "backdrop") (record { x = 0; y = 0; width = 1000; height = whole workers })

-- what stands beside and behind the strip of a worker
unfoldable pub track : ℕ → List ℕ
track worker =
    label (codes "end") (left - 12) (strip_end worker - 8) (codes "worker " ++ decimal worker)
    ++ rect (codes "track") (record { x = left; y = strip_end worker - strip; width = room; height = strip }) ++ codes "\n"

-- where a column of so many begins: none is wider than the twentieth part of the room
abbrev pub column_start : ℕ → ℕ → ℕ
column_start count column = left + scale room (max 20 count) column

-- how wide it is: up to the next one, with a gap, and at least 1
abbrev pub column_width : ℕ → ℕ → ℕ
column_width count column = max 1 (column_start count (column + 1) - column_start count column - 1)

-- the record of the first mark
abbrev pub first_at : List Mark → ℕ
first_at marks = option_map_or (λ mark. mark.at) (slice_get marks 0) 0

-- the record of the last mark
abbrev pub last_at : List Mark → ℕ
last_at marks = option_map_or (λ mark. mark.at) (slice_get marks (length marks - 1)) 0

-- which records they are, and how many
unfoldable pub records : List Mark → List ℕ
records marks =
    if length marks == 1 then codes "record " ++ decimal (first_at marks)
    else codes "records " ++ decimal (first_at marks) ++ codes " to " ++ decimal (last_at marks) ++ codes ", " ++ rows_text (length marks)

-- what is said of a column
unfoldable pub said : List Mark → List ℕ
said marks = records marks ++ codes ": least " ++ decimal (least_of marks) ++ codes ", most " ++ decimal (greatest_of marks)

-- the column itself, from its least to its greatest number, and at least 3 high
abbrev pub span : ℕ → ℕ → ℕ → List Mark → Area
span peak x width marks =
    record { x = x; y = base - scale rise peak (greatest_of marks); width = width; height = max 3 (scale rise peak (greatest_of marks) - scale rise peak (least_of marks)) }

-- a worker's part of a column of so many rows, as high a part of its strip, and at least 3 high
abbrev pub part_height : ℕ → ℕ → ℕ
part_height count own = max 3 (scale strip count own)

-- the class of a worker's parts: eight hues in turn
abbrev pub hue : ℕ → List ℕ
hue worker = codes "w" ++ decimal (worker % 8)

-- the part itself, where the worker has a row in the column
unfoldable pub part : ℕ → ℕ → ℕ → ℕ × ℕ → List ℕ
part x width count (worker, own) =
    if own == 0 then [] else rect (hue worker) (record { x = x; y = strip_end worker - part_height count own; width = width; height = part_height count own })

-- the parts of all workers
unfoldable pub parts : ℕ → ℕ → ℕ → List Mark → List ℕ
parts workers x width marks = flat_map (part x width (length marks)) (enumerate_from 0 (shares_of workers marks))

-- what belongs to a column that begins at x
abbrev pub column_inside : ℕ → ℕ → ℕ → ℕ → List Mark → List ℕ
column_inside workers peak x width marks = element (codes "title") [] (said marks) ++ rect (codes "span") (span peak x width marks) ++ parts workers x width marks

-- a column of so many
unfoldable pub column : ℕ → ℕ → ℕ → ℕ × List Mark → List ℕ
column workers peak count (i, marks) = element (codes "g") [] (column_inside workers peak (column_start count i) (column_width count i) marks) ++ codes "\n"

-- all columns
unfoldable pub columns_text : ℕ → ℕ → List (List Mark) → List ℕ
columns_text workers peak columns = flat_map (column workers peak (length columns)) (enumerate_from 0 columns)

-- what stands beside and behind all strips
unfoldable pub tracks : ℕ → List ℕ
tracks workers = flat_map track (range_with_len 0 workers)

-- how wide and high the whole is
unfoldable pub view : ℕ → List ℕ
view workers = attribute (codes "viewBox") (codes "0 0 1000 " ++ decimal (whole workers))

-- the attributes of the whole
unfoldable pub svg_attributes : ℕ → List ℕ
svg_attributes workers = attribute (codes "xmlns") (codes "http://www.w3.org/2000/svg") ++ view workers ++ attribute (codes "role") (codes "img")

-- all that is drawn, in at most 200 columns
abbrev pub svg_inside : List ℕ → Heading → ℕ → List Mark → List ℕ
svg_inside name heading workers marks =
    head name (length marks) heading ++ backdrop workers ++ lines name (length marks) heading ++ frame (top heading marks)
    ++ codes "\n" ++ tracks workers ++ columns_text workers (top heading marks) (columns_of 200 marks)

-- the whole picture
unfoldable pub svg : List ℕ → Heading → ℕ → List Mark → List ℕ
svg name heading workers marks = element (codes "svg") (svg_attributes workers) (svg_inside name heading workers marks)
