-- A QUIET part of a walk: it reads nothing, gives nothing, and leaves the card's blocks, the user area in access and the
-- flags as they were.
use Rattle.std.proofs.Common.{◌≡◌, refl, sym, ap, ◌∙◌, subst, List, [], ◌∷◌, ◌++◌, append_assoc}
use Rattle.sdv_card.specs.declared.answer.DataEnd.{DataEnd}
use Rattle.sdv_card.specs.Card.{Card, Block, AreBlocks}
use Rattle.sdv_card.specs.Host.{Host}
use Rattle.sdv_card.specs.Phases.{Moved}
use Rattle.sdv_card.specs.Taken.{SameCard}
use Rattle.sdv_graph.specs.Walk.{Pair, Ending, given, given_by}
use Rattle.sdv_card.proofs.Same.{same_itself, same_both}
use Rattle.sdv_block.specs.Served.{AllowedSteps, IsEarly, blocks_in, blocks_read, disk_blocks}
use Rattle.sdv_block.proofs.Parts.{Halts}
use Rattle.sdv_block.proofs.UserArea.{IsUser}

-- the events of two parts

pub blocks_read-append : (f g : List Pair) → blocks_read (f ++ g) ≡ blocks_read f ++ blocks_read g
blocks_read-append [] g = refl
blocks_read-append (p ∷ f) g =
    ap (λ (bs : List Block). blocks_in p.1 ++ bs) (blocks_read-append f g) ∙ sym (append_assoc (blocks_in p.1) (blocks_read f) (blocks_read g))

pub given-append : (f g : List Pair) → given (f ++ g) ≡ given f ++ given g
given-append [] g = refl
given-append (p ∷ f) g = ap (λ (bs : List Block). given_by p.0 ++ bs) (given-append f g) ∙ sym (append_assoc (given_by p.0) (given f) (given g))

none_after : {A : Type 0} → (whole f g : List A) → whole ≡ f ++ g → f ≡ [] → g ≡ [] → whole ≡ []
none_after whole f g e p q = rw (p, q) at e

pub read_none : (f g : List Pair) → blocks_read f ≡ [] → blocks_read g ≡ [] → blocks_read (f ++ g) ≡ []
read_none f g p q = none_after (blocks_read (f ++ g)) (blocks_read f) (blocks_read g) (blocks_read-append f g) p q

pub gave_none : (f g : List Pair) → given f ≡ [] → given g ≡ [] → given (f ++ g) ≡ []
gave_none f g p q = none_after (given (f ++ g)) (given f) (given g) (given-append f g) p q

-- a phase that moves no block into the card leaves its blocks
pub moved_contents : (end : DataEnd) (u v : Card) → Moved end u v → u.contents ≡ v.contents
moved_contents end u v m = ap (λ (x : Card). x.contents) m.card

-- PARTS

pub record Quiet (c : Card) (h : Host) (front : List Pair) (u : Card) (h' : Host) : Type 0 where
  pub same : SameCard c u
  pub contents : c.contents ≡ u.contents
  pub user : IsUser c → IsUser u
  pub read : blocks_read front ≡ []
  pub gave : given front ≡ []
  pub flags : h'.flags ≡ h.flags

pub quiet_none : (c : Card) (h : Host) → Quiet c h [] c h
quiet_none c h = record { same = same_itself c c refl; contents = refl; user = λ user. user; read = refl; gave = refl; flags = refl }

pub quiet_both : (c u v : Card) (h i j : Host) (f g : List Pair) → Quiet c h f u i → Quiet u i g v j → Quiet c h (f ++ g) v j
quiet_both c u v h i j f g a b = record {
  same = same_both c u v a.same b.same;
  contents = a.contents ∙ b.contents;
  user = λ user. b.user (a.user user);
  read = read_none f g a.read b.read;
  gave = gave_none f g a.gave b.gave;
  flags = b.flags ∙ a.flags;
}

pub same_blocks : (c u : Card) → AreBlocks c.capacity (disk_blocks c) → SameCard c u → disk_blocks c ≡ disk_blocks u → AreBlocks u.capacity (disk_blocks u)
same_blocks c u b same contents = subst (λ n. AreBlocks n (disk_blocks u)) same.capacity (subst (λ bs. AreBlocks c.capacity bs) contents b)

-- it halted, read and gave nothing, and changed no block
pub record HaltedQuiet (e : Ending) (es : List Pair) (c last : Card) : Type 0 where
  pub early : IsEarly e
  pub contents : c.contents ≡ last.contents
  pub read : blocks_read es ≡ []
  pub gave : given es ≡ []

pub halted_later : (e : Ending) (es f rest : List Pair) (c u last : Card) (h i : Host) → es ≡ f ++ rest → Quiet c h f u i → HaltedQuiet e rest u last →
    HaltedQuiet e es c last
halted_later e es f rest c u last h i same q halt = record {
  early = halt.early;
  contents = q.contents ∙ halt.contents;
  read = ap blocks_read same ∙ read_none f rest q.read halt.read;
  gave = ap given same ∙ gave_none f rest q.gave halt.gave;
}

-- nothing comes after a walk that halts
pub at_rest : (e : Ending) (rest : List Pair) (u last : Card) → Halts e rest → AllowedSteps u rest last → u ≡ last
at_rest e rest u last halt steps = subst (λ es. AllowedSteps u es last) halt.none steps

pub halted_here : (e : Ending) (es : List Pair) (c last : Card) → Halts e es → AllowedSteps c es last → HaltedQuiet e es c last
halted_here e es c last halt steps = record {
  early = halt.early;
  contents = ap (λ (x : Card). x.contents) (at_rest e es c last halt steps);
  read = ap blocks_read halt.none;
  gave = ap given halt.none;
}
