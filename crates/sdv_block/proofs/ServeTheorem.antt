-- THE THEOREM for a run over a port: a batch that ran to its end served its requests as a plain disk.
use Rattle.std.proofs.Common.{◌≡◌, ℕ, refl, sym, ap, ◌∙◌, subst, true, List, [], ◌∷◌, ◌++◌, Option}
use Rattle.std.specs.Prelude.{Ok, Err}
use Rattle.std.specs.List.{concat}
use Rattle.std.specs.Io.KnownBytes.{Appends}
use Rattle.std.proofs.lemmas.List.Folds.{concat-append}
use Rattle.std.proofs.Math.Logic.{∥∥₁_map}
use Rattle.sdv_registers.specs.declared.kind.Kind.{Kind}
use Rattle.sdv_card.specs.declared.answer.DataEnd.TheVariants as ends
use Rattle.sdv_card.specs.Card.{Card}
use Rattle.sdv_card.specs.Port.{KeepsTables}
use Rattle.sdv_card.specs.ScriptEvent.{Return, BlocksIn}
use Rattle.sdv_graph.specs.Begins.{begins}
use Rattle.sdv_graph.specs.Graph.{Graph}
use Rattle.sdv_graph.specs.Tree.{Declared}
use Rattle.sdv_graph.specs.Walk.{Pair, Ending, Open, Walk}
use Rattle.sdv_script.specs.Lines.{statement_lines}
use Rattle.sdv_script.specs.Script.{IsScript}
use Rattle.sdv_script.proofs.ScriptLaws.{one_tree_lem}
use Rattle.sdv_facts.specs.Facts.{PointFacts}
use Rattle.sdv_facts.proofs.AnyStart.{profile_of}
use Rattle.sdv_facts.specs.Bounds.{bound_of}
use Rattle.sdv_facts.specs.Closed.{Closed}
use Rattle.sdv_check.specs.declared.fault.CheckFault.{CheckFault}
use Rattle.sdv_check.specs.declared.fault.CheckFault.TheVariants.{Points, Start, Illegal, Address, Shape, Number, Bound, EndState}
use Rattle.sdv_check.specs.Checked.{Fails}
use Rattle.sdv_check.specs.Verified.{IsGraphOfText}
use Rattle.sdv_trace.specs.declared.end.End.{End}
use Rattle.sdv_run.specs.declared.fault.RunFault.{RunFault}
use Rattle.sdv_run.specs.OnCard.{ShowsStart, OnCard, RanBeside}
use Rattle.sdv_run.specs.Ran.{IsWalk, Ended, Stopped}
use Rattle.sdv_run.specs.Run.{Steps, received_by, received, ending_of}
use Rattle.sdv_run.specs.Step.{World}
use Rattle.sdv_run.proofs.OnCard.{HasCertificate, ran_beside}
use Rattle.sdv_block.specs.declared.request.Request.{Request}
use Rattle.sdv_block.specs.BatchText.{batch_script}
use Rattle.sdv_block.specs.BringUpStatements.{batch_names, batch_body}
use Rattle.sdv_block.specs.Disk.{after_batch, greatest_end}
use Rattle.sdv_block.specs.Served.{blocks_in, blocks_read, disk_of, EndsAs, ServedBatch}
use Rattle.sdv_block.specs.ServedOver.{ServedOver, KeptOver}
use Rattle.sdv_block.specs.Serves.{IsCertified, RanWhole, RanOpen}
use Rattle.sdv_block.proofs.BatchServed.{batch_begins, batch_served}

-- a certificate that is closed fails by no clause
pub no_fault : (g : Graph) (ps : List PointFacts) (fault : CheckFault) → Closed g ps → Fails g ps fault → ⊥
no_fault g ps Points closed x = x closed.points
no_fault g ps Start closed x = x.1 closed.start
no_fault g ps (Illegal i) closed x = let f = x.2 in f.fails (closed.each i f.place f.facts f.here f.known).legal
no_fault g ps (Address i) closed x = let f = x.2 in f.fails.1 (closed.each i f.place f.facts f.here f.known).address
no_fault g ps (Shape i) closed x = let f = x.2 in f.fails.2 (closed.each i f.place f.facts f.here f.known).shape
no_fault g ps (Number i) closed x = let f = x.2 in f.fails.3 (closed.each i f.place f.facts f.here f.known).number
no_fault g ps (Bound i) closed x = let f = x.2 in f.fails.4 (closed.each i f.place f.facts f.here f.known).bound
no_fault g ps (EndState i) closed x = let f = x.2 in f.fails.5 (closed.each i f.place f.facts f.here f.known).end_state

-- THE OUTPUT: the bytes that were received are those of the blocks that were read

received_of : (r : Return) → received_by r ≡ concat (blocks_in r)
received_of (BlocksIn ends.Ok blocks) = refl
received_of r = refl

received_is : (es : List Pair) → received es ≡ concat (blocks_read es)
received_is [] = refl
received_is (p ∷ es) =
    ap (λ (bs : List ℕ). bs ++ received es) (received_of p.1) ∙ ap (λ (bs : List ℕ). concat (blocks_in p.1) ++ bs) (received_is es)
    ∙ sym (concat-append (blocks_in p.1) (blocks_read es))

module _ (k : Kind) (rs : List Request) (g : Graph) (is : IsScript (batch_script k rs)) (of : IsGraphOfText (batch_script k rs).text g) where
  abbrev same_tree : (of.script.names ≡ batch_names k) × (of.script.body ≡ batch_body k (greatest_end rs) rs)
  same_tree = one_tree_lem of.script (batch_script k rs) of.is_script is of.same

  -- a path of the graph of its text is a walk of its statements
  walk_of : (e : Ending) (es : List Pair) → IsWalk g e es → Walk k (batch_names k) (batch_body k (greatest_end rs) rs) e es
  walk_of e es w =
      subst (λ names. Walk names.kind names (batch_body k (greatest_end rs) rs) e es) same_tree.0
      (subst (λ body. Walk of.script.names.kind of.script.names body e es) same_tree.1 (w.walk of.script.names of.script.body (statement_lines of.script) of.graph))

  kind_is : g.kind ≡ k
  kind_is = of.graph.kind_same ∙ ap (λ names. names.kind) same_tree.0

  served_by : {S : Type 0} (steps : Steps S) (card : S → Option Card) (most : ℕ) (end : End) (w w' : World S) (c : Card) → ShowsStart card k true w.port c →
      (ran : Ended steps g end w w') → OnCard card most (ending_of end) ran.events c w'.port → ServedOver card rs (ending_of end) c w w'
  served_by steps card most end w w' c start ran b =
      let s : ServedBatch rs (ending_of end) ran.events c b.last =
      batch_served k rs most (ending_of end) ran.events c b.last start.kind (profile_of true c start.start) (walk_of (ending_of end) ran.events ran.walk) b.steps b.good in
      record {
        last = b.last;
        shown = b.shown;
        read = blocks_read ran.events;
        output = subst (λ bytes. Appends w.out w'.out bytes) (received_is ran.events) ran.output;
        ends = subst (λ input. EndsAs (ending_of end) (disk_of b.last w'.input (blocks_read ran.events)) (after_batch rs (disk_of c input [])))
            (sym ran.happened.input) (s.ends w'.input);
        outside = s.outside;
        boot = s.boot;
        beyond = s.beyond;
      }

  kept_by : {S : Type 0} (steps : Steps S) (card : S → Option Card) (most : ℕ) (fault : RunFault) (w w' : World S) (c : Card) → ShowsStart card k true w.port c →
      (ran : Stopped steps g fault w w') → OnCard card most Open ran.events c w'.port → KeptOver card rs c w'
  kept_by steps card most fault w w' c start ran b =
      let s : ServedBatch rs Open ran.events c b.last =
      batch_served k rs most Open ran.events c b.last start.kind (profile_of true c start.start) (walk_of Open ran.events ran.walk) b.steps b.good in
      record { last = b.last; shown = b.shown; outside = s.outside; boot = s.boot }

  begins_is : g.begins ≡ true
  begins_is =
      of.graph.begins_same ∙ ap (λ (n : Declared). begins n.kind of.script.body) same_tree.0 ∙ ap (begins k) same_tree.1 ∙ batch_begins k (greatest_end rs) rs

  -- the kind of the card is that of the graph, which begins with CMD0
  starts_so : {S : Type 0} (card : S → Option Card) (s : S) (c : Card) → ShowsStart card k true s c → ShowsStart card g.kind g.begins s c
  starts_so card s c start = subst (λ b. ShowsStart card g.kind b s c) (sym begins_is) (subst (λ k. ShowsStart card k true s c) (sym kind_is) start)

  -- A RUN over a port that keeps the tables of the card that it shows
  module _ {S : Type 0} (steps : Steps S) (card : S → Option Card) (keeps : KeepsTables steps card) (certified : IsCertified g) (w w' : World S) where
    abbrev most : ℕ
    most = bound_of g certified.points

    has : ∥ HasCertificate g most ∥₁
    has = ∣ record { points = certified.points; closed = certified.closed; bound = refl } ∣₁

    pub ran_whole : (end : End) → Ended steps g end w w' → RanWhole steps card k rs end w w'
    ran_whole end ended =
        let beside : RanBeside steps card g most w w' (Ok end) = ran_beside steps card keeps g most of.graph.sound has w w' (Ok end) ended in
        record {
          graph = g;
          of_text = of;
          ran = beside.0;
          served = λ c start. ∥∥₁_map (beside.1 c (starts_so card w.port c start)) (served_by steps card most end w w' c start beside.0);
        }

    pub ran_open : (fault : RunFault) → Stopped steps g fault w w' → RanOpen steps card k rs fault w w'
    ran_open fault stopped =
        let beside : RanBeside steps card g most w w' (Err fault) = ran_beside steps card keeps g most of.graph.sound has w w' (Err fault) stopped in
        record {
          graph = g;
          of_text = of;
          ran = beside.0;
          kept = λ c start. ∥∥₁_map ((beside.1 c (starts_so card w.port c start)).0) (kept_by steps card most fault w w' c start beside.0);
          no_reply = λ c start. (beside.1 c (starts_so card w.port c start)).1;
        }
