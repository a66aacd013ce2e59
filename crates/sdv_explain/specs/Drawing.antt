-- The DRAWING of a graph, in the language of Graphviz: a line for each point, in their order, and then a line for each
-- edge that leads to a point, point by point in the order of the edges of each. An edge past the last point has none.
use Rattle.std.specs.Prelude.{◌≡◌, get_or, ℕ, List, [], ◌∷◌, ◌++◌, flat_map, Bool, true, false, ◌==◌, ◌||◌, ◌&&◌, not, nat_lt, nat_le, length, slice_get, Option, Some, None, codes, decimal, if◌then◌else◌}
use Rattle.std.specs.Global.{Vec}
use Rattle.sdv_graph.specs.Graph.{Graph}
use Rattle.sdv_graph.specs.declared.graph.Target.{Target}
use Rattle.sdv_graph.specs.Walk.{Finished, Failed}
use Rattle.sdv_graph.specs.Path.{Case, Action, Point, sends, phases, lets, tests, flags, widths, heads, jumps, stops}
use Rattle.sdv_certify.specs.declared.fault.CertifyFault.{CertifyFault}
use Rattle.sdv_certify.specs.declared.fault.CertifyFault.TheVariants.{Illegal, Address, EndState}
use Rattle.sdv_explain.specs.declared.refusal.Refusal.{Refusal}
use Rattle.sdv_explain.specs.declared.drawing.edges.Edge.{Edge}
use Rattle.sdv_explain.specs.declared.drawing.look.Look.{Look as CodeLook}
use Rattle.sdv_telling.specs.declared.visit.Visit.{Visit}
use Rattle.sdv_telling.specs.Guards.{guards_words}
use Rattle.sdv_telling.specs.Numbered.{numbered}
use Rattle.sdv_telling.specs.Statements.{Text}

-- what is shown: the points of a graph and their lines, why the script is refused, a way to what is, and whether faults are
-- left out
pub record Look : Type 0 where
  pub places : List Point
  pub lines : List ℕ
  pub refusal : Option CertifyFault
  pub way : List Visit
  pub no_faults : Bool

abbrev pub look_of : CodeLook → Look
look_of look = record {
  places = look.graph.now.points;
  lines = look.graph.now.lines;
  refusal = look.refusal;
  way = look.way.now;
  no_faults = look.no_faults;
}

abbrev pub ends_in_fault : Action → Bool
ends_in_fault (stops (Failed name)) = true
ends_in_fault action = false

abbrev pub is_fault : Option Point → Bool
is_fault None = false
is_fault (Some place) = ends_in_fault place.action

-- a point that ends in a fault may be left out
abbrev pub hides : Look → (point : ℕ) → Bool
hides look point = if look.no_faults then is_fault (slice_get look.places point) else false

-- from the point of the visit before, if there is one, to the point of the next
abbrev pub steps : (before : Option ℕ) → (after from to : ℕ) → Bool
steps None after from to = false
steps (Some before) after from to = (before == from) && (after == to)

abbrev pub steps_on : (before : Option ℕ) → List Visit → (from to : ℕ) → Bool
steps_on before [] from to = false
steps_on before (v ∷ vs) from to = steps before v.point from to || steps_on (Some v.point) vs from to

-- the way goes from one point to another at once
abbrev pub is_on_way : List Visit → (from to : ℕ) → Bool
is_on_way way from to = steps_on None way from to

-- between quotes a quote and a backslash have a backslash before them
abbrev pub escaped_byte : ℕ → Text
escaped_byte byte = if (byte == 34) || (byte == 92) then 92 ∷ byte ∷ [] else byte ∷ []

abbrev pub escaped : Text → Text
escaped text = flat_map escaped_byte text

-- POINTS: a box with the line of the text, the number of the point and the words of the statement; `done` and a fault are
-- no boxes; the point for which the script is refused is red, and says the clause that fails there

abbrev pub clause_if : Bool → Text → Text
clause_if true clause = clause
clause_if false clause = []

-- the clause that fails at a point; none where it is not the point that the refusal names
abbrev pub clause_at : Option CertifyFault → (point : ℕ) → Text
clause_at (Some (Illegal number shape)) point = clause_if (number == point) (codes "Illegal")
clause_at (Some (Address number)) point = clause_if (number == point) (codes "Address")
clause_at (Some (EndState number)) point = clause_if (number == point) (codes "EndState")
clause_at _ point = []

abbrev pub form : Action → Text
form (stops Finished) = codes ", shape=ellipse, style=bold"
form (stops (Failed name)) = codes ", style=rounded, color=gray50, fontcolor=gray30"
form action = []

abbrev pub form_of : Option Point → Text
form_of None = []
form_of (Some place) = form place.action

abbrev pub red : Text
red = codes ", color=red, fontcolor=red, penwidth=2"

abbrev pub mark : (form clause : Text) → Text
mark form [] = codes "\"" ++ (form ++ codes "];\n")
mark form (c ∷ cs) = codes "\\nrefused " ++ ((c ∷ cs) ++ (codes "\"" ++ (form ++ (red ++ codes "];\n"))))

abbrev pub line_at : Look → (point : ℕ) → ℕ
line_at look point = get_or look.lines point 0

abbrev pub point_front : (point line : ℕ) → Text
point_front point line =
    codes "    " ++ (decimal point ++ (codes " [label=\"line "
    ++ (decimal line ++ (codes ", point " ++ (decimal point ++ codes "\\n")))))

-- `    3 [label="line 7, point 3\nCMD55"];`
abbrev pub shown_point : Look → (point : ℕ) → (statement : Vec ℕ) → Text
shown_point look point statement = point_front point (line_at look point) ++ (escaped statement.items
    ++ mark (form_of (slice_get look.places point)) (clause_at look.refusal point))

abbrev pub point_line : Look → (point : ℕ) → (statement : Vec ℕ) → Text
point_line look point statement = if hides look point then [] else shown_point look point statement

-- EDGES: each says its case; one of the way to what is refused is red; and one that leads back is dashed, and does not
-- count where points are placed

abbrev pub dash : (back : Bool) → Text
dash true = codes ", style=dashed, constraint=false];\n"
dash false = codes "];\n"

abbrev pub paint : (on_way : Bool) → Text
paint true = codes "\"" ++ red
paint false = codes "\""

abbrev pub arrow : (from to : ℕ) → Text
arrow from to = codes "    " ++ (decimal from ++ (codes " -> " ++ (decimal to ++ codes " [label=\" ")))

-- an edge leads back where its target is not after its own point
abbrev pub written_edge : List Visit → (from : ℕ) → (to : ℕ) → (case : Text) → Text
written_edge way from to case = arrow from to ++ (case ++ (paint (is_on_way way from to) ++ dash (nat_le to from)))

-- an edge leads to a point that is shown
abbrev pub leads : Look → (to : ℕ) → Bool
leads look to = nat_lt to (length look.places) && not (hides look to)

-- `    3 -> 4 [label=" app"];`, with a space between the edge and its label
abbrev pub edge_line : Look → (from : ℕ) → Target → (case : Text) → Text
edge_line look from t case = if leads look t.to then written_edge look.way from t.to case else []

-- an edge of a point, and its other one
abbrev pub both_lines : Look → Edge → (other : Target) → Text
both_lines look edge other =
    edge_line look edge.from edge.target edge.case.now ++ edge_line look edge.from other (codes "else")

abbrev pub case_line : Look → (from : ℕ) → Case → Text
case_line look from w = edge_line look from w.target (guards_words w.guards)

-- a command without cases has one edge, which says nothing
abbrev pub else_word : List Case → Text
else_word [] = []
else_word (w ∷ ws) = codes "else"

abbrev pub edge_lines : Look → (from : ℕ) → Action → Text
edge_lines look from (sends c ways other) =
    flat_map (case_line look from) ways ++ edge_line look from other (else_word ways)
edge_lines look from (phases p well other) =
    edge_line look from well (codes "ok") ++ edge_line look from other (codes "else")
edge_lines look from (lets l t) = edge_line look from t []
edge_lines look from (tests c met unmet) =
    edge_line look from met (codes "then") ++ edge_line look from unmet (codes "else")
edge_lines look from (flags flag on t) = edge_line look from t []
edge_lines look from (widths width t) = edge_line look from t []
edge_lines look from (heads count body other) =
    edge_line look from body (codes "turn") ++ edge_line look from other (codes "else")
edge_lines look from (jumps t) = edge_line look from t []
edge_lines look from (stops ending) = []

abbrev pub edges_at : Look → (from : ℕ) → Point → Text
edges_at look from place = edge_lines look from place.action

-- THE DRAWING

abbrev pub header : Text
header = codes "digraph script {\n    graph [nodesep=0.4];\n    node [shape=box, fontname=\"monospace\"];\n    edge [fontname=\"monospace\"];\n"

-- of the points of a graph with these first words of their statements
abbrev pub drawing : Look → (statements : List (Vec ℕ)) → Text
drawing look statements =
    header ++ (numbered (point_line look) 0 statements ++ (numbered (edges_at look) 0 look.places ++ codes "}\n"))

-- WHAT IS DRAWN of a script: its graph, marked where the script is refused

-- why a script is refused, and a way to what is
abbrev pub fault_of : Option Refusal → Option CertifyFault
fault_of None = None
fault_of (Some refusal) = Some refusal.fault

abbrev pub way_of : Option Refusal → List Visit
way_of None = []
way_of (Some refusal) = refusal.way.items

-- the text is the drawing of the graph of a script that is refused so, if it is, with some words for each statement
pub record Draws (g : Graph) (refusal : Option Refusal) (no_faults : Bool) (text : List ℕ) : Type 0 where
  pub statements : List (Vec ℕ)
  pub each : length statements ≡ length g.points
  pub drawn : text ≡ drawing (record {
    places = g.points;
    lines = g.lines;
    refusal = fault_of refusal;
    way = way_of refusal;
    no_faults = no_faults;
  }) statements
