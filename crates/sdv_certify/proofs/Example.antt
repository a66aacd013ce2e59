-- Two loops, of which the inner one is also left by a `break`, after a first command. In an outer turn it sends 28 commands
-- at most: nine turns with three, and one with one. Its else block ends the run after 30.
use Rattle.std.proofs.Common.{◌≡◌, [], ◌∷◌, Some, None, refl}
use Rattle.sdv_certify.specs.declared.spans.Spans.{Spans}
use Rattle.sdv_certify.specs.Spans.{spans, seq, either, later, all_turns}
use Rattle.sdv_certify.specs.Forms.{end_form, last_turn, head_form, before_loop}

abbrev one : Spans
one = later 1 (spans (Some 0) None None)

abbrev left_or_not : Spans
left_or_not = either (spans None (Some 0) None) (spans (Some 0) None None)

abbrev inner : Spans
inner = seq one (seq left_or_not (seq one (seq one (spans (Some 0) None None))))

abbrev outer : Spans
outer = seq (all_turns 10 inner (spans None None (Some 0))) (spans (Some 0) None None)

head : head_form outer (last_turn outer end_form end_form) ≡ record { base = 2; each = 28 ∷ [] }
head = refl

before : before_loop 3 outer (last_turn outer end_form end_form) ≡ record { base = 86; each = [] }
before = refl
