use Rattle.std.proofs.Common.{◌≡◌, ◌∙◌, ◌++◌, ◌∷◌, [], ap, sym, subst, List, ℕ, Some, None, eqb, position}
use Rattle.sdv_image.specs.Orders.{IsOrder, used}
use Rattle.sdv_image.proofs.OrderLaws.{moved_behind, still_order, is_there}
use Rattle.sdv_image.proofs.order.Order.touch.Goals as goal

pub invariant_of-self : goal.invariant_of-self
invariant_of-self c =
    let xs : List ℕ = c.self.inside.indexes.items in
    let at : position (λ other. eqb other c.args.index) xs ≡ Some c.in-Some.turn =
    ap (λ (l : List ℕ). position (λ other. eqb other c.args.index) l) (sym c.deref.ensures.0) ∙ (sym c.turn_of.ensures ∙ c.in-Some.is) in
    let pushed = c.push.ensures.items ∙ ap (λ (l : List ℕ). l ++ c.args.index ∷ []) c.remove.ensures.items in
    subst IsOrder (sym pushed) (still_order xs c.args.index c.self.invariant c.requires c.in-Some.turn at)

pub returns-in-Some : goal.returns-in-Some
returns-in-Some c =
    let xs : List ℕ = c.self.inside.indexes.items in
    let at : position (λ other. eqb other c.args.index) xs ≡ Some c.in-Some.turn =
    ap (λ (l : List ℕ). position (λ other. eqb other c.args.index) l) (sym c.deref.ensures.0) ∙ (sym c.turn_of.ensures ∙ c.in-Some.is) in
    let pushed = c.push.ensures.items ∙ ap (λ (l : List ℕ). l ++ c.args.index ∷ []) c.remove.ensures.items in
    pushed ∙ (moved_behind xs c.args.index c.self.invariant c.requires c.in-Some.turn at ∙ ap (λ (l : List ℕ). used l c.args.index) c.self.view_is)

pub returns-in_default : goal.returns-in_default
returns-in_default c =
    let xs : List ℕ = c.self.inside.indexes.items in
    let at : position (λ other. eqb other c.args.index) xs ≡ None =
    ap (λ (l : List ℕ). position (λ other. eqb other c.args.index) l) (sym c.deref.ensures.0) ∙ (sym c.turn_of.ensures ∙ c.in_default.is) in
    absurd (is_there xs c.args.index c.self.invariant c.requires at)
