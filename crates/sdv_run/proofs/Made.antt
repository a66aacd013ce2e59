-- The events of one move of a run.
use Rattle.std.proofs.Common.{◌≡◌, List, [], ◌∷◌, ◌++◌, refl, sym, ap, ◌∙◌, subst, append_assoc}
use Rattle.std.proofs.lemmas.List.{append-nil}
use Rattle.std.specs.Io.KnownBytes.{Appends}
use Rattle.sdv_registers.specs.declared.kind.Kind.{Kind}
use Rattle.sdv_card.specs.Host.{host_after}
use Rattle.sdv_card.specs.ScriptEvent.{ScriptEvent, Return}
use Rattle.sdv_graph.specs.Walk.{Pair, Ending, given_by, given}
use Rattle.sdv_graph.specs.Path.{Point, Stand, Move, Goes, Does, Halts, Follows, Path}
use Rattle.sdv_graph.specs.Graph.{WhereverTo}
use Rattle.sdv_trace.specs.Trace.{line_of, lines}
use Rattle.sdv_run.specs.Run.{Steps, RunMoved, received_by, received}
use Rattle.sdv_run.specs.Ran.{Happened, Written}
use Rattle.sdv_run.specs.Step.{World, Made, Leads}
use Rattle.sdv_text.proofs.WrittenLaws.{appends_more, appends_none}
use Rattle.sdv_run.proofs.AtPoints.{Onward}

-- LISTS OF EVENTS

pub moved_more : {S : Type 0} (k : Kind) (steps : Steps S) (es fs : List Pair) (s t u : S) → RunMoved k steps s es t → RunMoved k steps t fs u →
    RunMoved k steps s (es ++ fs) u
moved_more k steps [] fs s t u p q = subst (λ v. RunMoved k steps v fs u) p q
moved_more k steps (e ∷ es) fs s t u p q = (p.0, p.1, moved_more k steps es fs p.0 t u p.2 q)

pub lines_more : (es fs : List Pair) → lines (es ++ fs) ≡ lines es ++ lines fs
lines_more [] fs = refl
lines_more (e ∷ es) fs = ap (λ l. line_of e.0 e.1 ++ l) (lines_more es fs) ∙ sym (append_assoc (line_of e.0 e.1) (lines es) (lines fs))

pub received_more : (es fs : List Pair) → received (es ++ fs) ≡ received es ++ received fs
received_more [] fs = refl
received_more (e ∷ es) fs = ap (λ l. received_by e.1 ++ l) (received_more es fs) ∙ sym (append_assoc (received_by e.1) (received es) (received fs))

pub given_more : (es fs : List Pair) → given (es ++ fs) ≡ given es ++ given fs
given_more [] fs = refl
given_more (e ∷ es) fs = ap (λ l. given_by e.0 ++ l) (given_more es fs) ∙ sym (append_assoc (given_by e.0) (given es) (given fs))

module _ {S : Type 0} (k : Kind) (steps : Steps S) where
  -- first these events, and then those
  pub happened_more : (es fs : List Pair) (u v w : World S) → Happened k steps es u v → Happened k steps fs v w → Happened k steps (es ++ fs) u w
  happened_more es fs u v w p q = record {
    port = moved_more k steps es fs u.port v.port w.port p.port q.port;
    input = p.input ∙ ap (λ l. given es ++ l) q.input ∙ sym (append_assoc (given es) (given fs) w.input) ∙ ap (λ l. l ++ w.input) (sym (given_more es fs));
  }

  pub written_more : (es fs : List Pair) (u v w : World S) → Written es u v → Written fs v w → Written (es ++ fs) u w
  written_more es fs u v w p q = record {
    output = subst (λ l. Appends u.out w.out l) (sym (received_more es fs)) (appends_more u.out v.out w.out (received es) (received fs) p.output q.output);
    trace = subst (λ l. Appends u.trace w.trace l) (sym (lines_more es fs)) (appends_more u.trace v.trace w.trace (lines es) (lines fs) p.trace q.trace);
  }

  pub none_happened : (w : World S) → Happened k steps [] w w
  none_happened w = record { port = refl; input = refl }

  pub none_written : (w : World S) → Written [] w w
  none_written w = record { output = appends_none w.out; trace = appends_none w.trace }

  -- ONE EVENT

  pub one_happened : (event : ScriptEvent) (returned : Return) (w w' : World S) → Made k steps event returned w w' →
      Happened k steps ((event, returned) ∷ []) w w'
  one_happened event returned w w' made = record {
    port = (w'.port, made.step, refl);
    input = made.input ∙ ap (λ l. l ++ w'.input) (sym (append-nil (given_by event)));
  }

  pub one_written : (event : ScriptEvent) (returned : Return) (w w' : World S) → Made k steps event returned w w' → Written ((event, returned) ∷ []) w w'
  one_written event returned w w' made = record {
    output = subst (λ l. Appends w.out w'.out l) (sym (append-nil (received_by returned))) made.out;
    trace = subst (λ l. Appends w.trace w'.trace l) (sym (append-nil (line_of event returned))) made.trace;
  }

  -- ONE MOVE
  pub record Moves (g : List Point) (m : Move) (w w' : World S) (stand : Stand) : Type 0 where
    pub events : List Pair
    pub happened : Happened k steps events w w'
    pub written : Written events w w'
    pub leads : (e : Ending) (rest : List Pair) → Path k g e stand rest → Follows k e (Path k g e) m (events ++ rest)

  pub moves : (g : List Point) (m : Move) (w w' : World S) (stand : Stand) → Leads k steps m w w' stand → Moves g m w w' stand
  moves g (Goes next) w w' stand p = record {
    events = [];
    happened = subst (λ v. Happened k steps [] w v) (sym p.0) (none_happened w);
    written = subst (λ v. Written [] w v) (sym p.0) (none_written w);
    leads = λ e rest path. subst (λ s. Path k g e s rest) p.1 path;
  }
  moves g (Does deed before next) w w' stand p = record {
    events = (p.0, p.1) ∷ [];
    happened = one_happened p.0 p.1 w w' p.3;
    written = one_written p.0 p.1 w w' p.3;
    leads = λ e rest path. (p.0, p.1, rest, p.2, p.3.fits, refl, subst (λ s. Path k g e s rest) p.4 path);
  }
  moves g (Halts last) w w' stand p = absurd p

  -- what holds wherever the move leads holds where it led
  pub led_to : (P : Stand → Type 0) (m : Move) (w w' : World S) (stand : Stand) → WhereverTo P m → Leads k steps m w w' stand → P stand
  led_to P (Goes next) w w' stand all p = subst P (sym p.1) all
  led_to P (Does deed before next) w w' stand all p = subst P (sym p.4) (all p.1 (host_after k p.0 p.1 before))
  led_to P (Halts last) w w' stand all p = absurd p

  pub led_onward : (P : Stand → Type 0) (m : Move) (w w' : World S) (stand : Stand) → Onward P m → Leads k steps m w w' stand → P stand
  led_onward P (Goes next) w w' stand all p = subst P (sym p.1) all
  led_onward P (Does deed before next) w w' stand all p = subst P (sym p.4) (all p.1 (host_after k p.0 p.1 before))
  led_onward P (Halts last) w w' stand all p = absurd p
