-- The TABLE of a graph: a header of eight words, a word for each point, and the points' rows.
use Rattle.std.specs.Prelude.{ℕ, ◌+◌, ◌*◌, List, [], ◌∷◌, ◌++◌, length}
use Rattle.sdv_registers.specs.declared.kind.Kind.{Kind}
use Rattle.sdv_registers.specs.declared.kind.Kind.TheVariants.{Sd, Emmc}
use Rattle.sdv_graph.specs.Path.{Point}
use Rattle.sdv_graph.specs.Graph.{Graph}
use Rattle.sdv_table.specs.declared.format.TheConstants as format
use Rattle.sdv_table.specs.Row.{head_of_action, row_of_action, target_word, low, high}

abbrev pub rows : Kind → List Point → List ℕ
rows k [] = []
rows k (p ∷ ps) = row_of_action k p.action ++ rows k ps

-- each point's word: its statement's kind and small parts, and above them where its row stands
abbrev pub heads : Kind → ℕ → List Point → List ℕ
heads k at [] = []
heads k at (p ∷ ps) = (head_of_action p.action + format.UPPER * at) ∷ heads k (at + length (row_of_action k p.action)) ps

abbrev pub kind_code : Kind → ℕ
kind_code Sd = format.SD
kind_code Emmc = format.EMMC

abbrev pub magic : ℕ
magic = format.MAGIC

abbrev pub version : ℕ
version = format.VERSION

abbrev pub header_size : ℕ
header_size = format.HEADER_SIZE

abbrev pub first_row : Graph → ℕ
first_row g = header_size + length g.points

abbrev pub size : Graph → ℕ
size g = first_row g + length (rows g.kind g.points)

-- it says of how many moves no run makes more, and of how many commands none sends more
abbrev pub header : Graph → (most : ℕ) → List ℕ
header g most =
    magic
    ∷ (version + format.KIND * (kind_code g.kind + format.PART_BOUND * (g.numbers + format.PART_BOUND * g.flags)))
    ∷ (length g.points + format.UPPER * size g)
    ∷ target_word g.first ∷ low g.steps ∷ high g.steps ∷ low most ∷ high most ∷ []

unfoldable pub table_of : Graph → (most : ℕ) → List ℕ
table_of g most = header g most ++ (heads g.kind (first_row g) g.points ++ rows g.kind g.points)
