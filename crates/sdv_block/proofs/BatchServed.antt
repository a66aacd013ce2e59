-- THE THEOREM: a walk of a batch's script beside a card of the profile does what a plain disk does.
use Rattle.std.proofs.Common.{◌≡◌, ℕ, ◌<◌, inl, inr, refl, sym, ◌∙◌, subst, true, false, List, [], ◌∷◌, ◌++◌}
use Rattle.std.specs.Prelude.{◌⊎◌, codes}
use Rattle.sdv_registers.specs.declared.kind.Kind.{Kind}
use Rattle.sdv_registers.specs.declared.kind.Kind.TheVariants.{Sd, Emmc}
use Rattle.sdv_card.specs.Card.{Card, Block}
use Rattle.sdv_card.specs.CommandTable.{order_of}
use Rattle.sdv_card.specs.Profile.{IsOfProfile, IsAtStart}
use Rattle.sdv_card.specs.Resets.{IsReset}
use Rattle.sdv_card.proofs.ResetSteps.{resets_start_cards, reset_of, reset_start}
use Rattle.sdv_graph.specs.Begins.{begins}
use Rattle.sdv_graph.specs.Walk.{Pair, Ending, Finished, Failed, Walk, given}
use Rattle.sdv_graph.proofs.Begun.{walks_begin}
use Rattle.sdv_facts.specs.Beside.{StepsOf, IsAllowed, IsGood}
use Rattle.sdv_block.specs.declared.request.Request.{Request}
use Rattle.sdv_block.specs.BringUpStatements.{batch_names, batch_body}
use Rattle.sdv_block.specs.Disk.{Disk, after_batch, HasRead, SameOutside, greatest_end}
use Rattle.sdv_block.specs.Served.{AllowedSteps, blocks_read, IsEarly, disk_blocks, disk_of, EndsAs, ServedBatch}
use Rattle.sdv_block.proofs.DiskLaws.{grows, same_outside}
use Rattle.sdv_block.proofs.Parts.{allowed_steps}
use Rattle.sdv_block.proofs.Serving.{not_early}
use Rattle.sdv_block.proofs.UserArea.{boots_both, same_boots, same_disks}
use Rattle.sdv_block.proofs.WholeBatch.{Outcome, batch_walk}

-- an early end is not the fault `beyond`
not_beyond : (e : Ending) → IsEarly e → e ≡ Failed (codes "beyond") → ⊥
not_beyond e early is = let f : true ≡ false = subst (λ v. IsEarly v) is early in cc

done_not_beyond : (e : Ending) → e ≡ Finished → e ≡ Failed (codes "beyond") → ⊥
done_not_beyond e is beyond = let f : Finished ≡ Failed (codes "beyond") = sym is ∙ beyond in cc

over_not_beyond : (e : Ending) → (e ≡ Finished) ⊎ IsEarly e → e ≡ Failed (codes "beyond") → ⊥
over_not_beyond e (inl is) beyond = done_not_beyond e is beyond
over_not_beyond e (inr early) beyond = not_beyond e early beyond

-- NOTHING WAS READ, before the requests or instead of them
nothing_read : (e : Ending) (reached served : Disk) → (e ≡ Finished → ⊥) → HasRead reached.output served → EndsAs e reached served
nothing_read Finished reached served f h = absurd (f refl)
nothing_read e reached served f h = h

undone : (rs : List Request) (e : Ending) (es : List Pair) (c last : Card) → (e ≡ Finished → ⊥) → blocks_read es ≡ [] → (left : List Block) →
    EndsAs e (disk_of last left (blocks_read es)) (after_batch rs (disk_of c (given es ++ left) []))
undone rs e es c last f read left =
    nothing_read e (disk_of last left (blocks_read es)) (after_batch rs (disk_of c (given es ++ left) [])) f
    (subst (λ r. HasRead r (after_batch rs (disk_of c (given es ++ left) []))) (sym read) (grows rs (disk_of c (given es ++ left) [])))

-- THE REQUESTS WERE SERVED
of_outcome : (rs : List Request) (e : Ending) (es : List Pair) (c last : Card) → Outcome (greatest_end rs) rs e es c last → ServedBatch rs e es c last
of_outcome rs e es c last (inl q) = record {
  ends = undone rs e es c last (not_early e q.early) q.read;
  outside = same_outside rs (disk_blocks c) (disk_blocks last) (same_disks c last q.contents);
  boot = same_boots c last q.contents;
  beyond = λ is. absurd (not_beyond e q.early is);
}
of_outcome rs e es c last (inr (inl r)) = record {
  ends = undone rs e es c last (λ is. done_not_beyond e is r.is) r.read;
  outside = same_outside rs (disk_blocks c) (disk_blocks last) (same_disks c last r.contents);
  boot = same_boots c last r.contents;
  beyond = λ is. r.small;
}
of_outcome rs e es c last (inr (inr s)) = record {
  ends = λ left. s.served.ends left [];
  outside = s.served.outside;
  boot = s.served.boot;
  beyond = λ is. absurd (over_not_beyond e s.served.over is);
}

-- FROM ANY STATE: the first event is CMD0, which keeps the blocks

served_from : (rs : List Request) (e : Ending) (es : List Pair) (c u last : Card) → c.contents ≡ u.contents → c.capacity ≡ u.capacity →
    ServedBatch rs e es u last → ServedBatch rs e es c last
served_from rs e es c u last contents capacity s =
    let blocks : disk_blocks c ≡ disk_blocks u = same_disks c u contents in
    record {
      ends = λ left.
          subst (λ (bs : List Block). EndsAs e (disk_of last left (blocks_read es)) (after_batch rs (record { blocks = bs; input = given es ++ left; output = [] })))
          (sym blocks) (s.ends left);
      outside = subst (λ (bs : List Block). SameOutside rs bs (disk_blocks last)) (sym blocks) s.outside;
      boot = boots_both c u last (same_boots c u contents) s.boot;
      beyond = λ is. subst (λ n. n < greatest_end rs) (sym capacity) (s.beyond is);
    }

pub batch_begins : (k : Kind) (least : ℕ) (rs : List Request) → begins k (batch_body k least rs) ≡ true
unfolding order_of
batch_begins Sd least rs = refl
batch_begins Emmc least rs = refl

from_start : (k : Kind) (rs : List Request) (e : Ending) (es : List Pair) (c last : Card) → k ≡ c.kind → IsAtStart c →
    Walk k (batch_names k) (batch_body k (greatest_end rs) rs) e es → AllowedSteps c es last → ServedBatch rs e es c last
from_start k rs e es c last kind start walk steps = of_outcome rs e es c last (batch_walk k e (greatest_end rs) rs es c last kind start walk steps)

from_any : (k : Kind) (rs : List Request) (e : Ending) (es : List Pair) (c last : Card) → k ≡ c.kind → IsOfProfile c →
    Walk k (batch_names k) (batch_body k (greatest_end rs) rs) e es → AllowedSteps c es last → ServedBatch rs e es c last
from_any k rs e [] c last kind profile walk same =
    let u = reset_of c in
    let s = from_start k rs e [] u u kind (reset_start k c kind profile) walk refl in
    subst (λ l. ServedBatch rs e [] c l) same
    (record { ends = s.ends; outside = s.outside; boot = record { boot_1 = refl; boot_2 = refl }; beyond = s.beyond })
from_any k rs e (p ∷ es) c last kind profile walk (u, fine, step, more) =
    let is : IsReset k p.0 = walks_begin k (batch_names k) (batch_body k (greatest_end rs) rs) (batch_begins k (greatest_end rs) rs) e (p ∷ es) walk in
    let r = (resets_start_cards k).reborn p.0 c p.1 u is kind profile step in
    let there : k ≡ u.kind = kind ∙ r.same.kind in
    let again : IsAllowed p.0 u = record { legal = (resets_start_cards k).legal p.0 u is there; bounds = (resets_start_cards k).bounds p.0 u is there } in
    served_from rs e (p ∷ es) c u last r.contents r.same.capacity (from_start k rs e (p ∷ es) u last there r.start walk (u, again, r.again, more))

-- every walk of the script beside a card of the profile whose events are legal and in bounds
pub batch_served : (k : Kind) (rs : List Request) (most : ℕ) (e : Ending) (es : List Pair) (c last : Card) → k ≡ c.kind → IsOfProfile c →
    Walk k (batch_names k) (batch_body k (greatest_end rs) rs) e es → StepsOf c es last → IsGood most e es c → ServedBatch rs e es c last
batch_served k rs most e es c last kind profile walk steps good = from_any k rs e es c last kind profile walk (allowed_steps es c last steps good.allowed)
