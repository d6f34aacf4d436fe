use Rattle.std.proofs.Common.{◌≡◌, ℕ, suc, ◌∙◌, Bool, Option, true, false, cond, List, [], ◌∷◌, length, position, insert, nat_lt, unwrap_or, Some, None, refl, ap}
use Rattle.std.specs.Option.{option_map}
use Rattle.df1_node.specs.Queue.{inserted}
use Rattle.df1_node.specs.HostLaws.{position-cons}
use Rattle.df1_node.proofs.queue.insert.Goals as goal

after : (o : Option ℕ) (p place : ℕ) (ps : List ℕ) → insert (p ∷ ps) (unwrap_or (option_map suc o) (suc (length ps))) place ≡ p ∷ insert ps (unwrap_or o (length ps)) place
after None p place ps = refl
after (Some k) p place ps = refl

either : (b : Bool) (o : Option ℕ) (p place : ℕ) (ps : List ℕ) →
    insert (p ∷ ps) (unwrap_or (cond b (Some 0) (option_map suc o)) (suc (length ps))) place ≡ cond b (place ∷ p ∷ ps) (p ∷ insert ps (unwrap_or o (length ps)) place)
either true o p place ps = refl
either false o p place ps = after o p place ps

-- a place put before the first that is above it
insert_is : (place : ℕ) (ps : List ℕ) → insert ps (unwrap_or (position (nat_lt place) ps) (length ps)) place ≡ inserted place ps
insert_is place [] = refl
insert_is place (p ∷ ps) =
    ap (λ o. insert (p ∷ ps) (unwrap_or o (suc (length ps))) place) (position-cons (nat_lt place) p ps)
    ∙ either (nat_lt place p) (position (nat_lt place) ps) p place ps
    ∙ ap (λ xs. cond (nat_lt place p) (place ∷ p ∷ ps) (p ∷ xs)) (insert_is place ps)

pub returns : goal.returns
returns c =
    let ps : List ℕ = c.args.out.now.items in
    c.insert.ensures.items
    ∙ ap (λ k. insert ps k c.args.place)
    (c.unwrap_or-at.ensures ∙ ap (unwrap_or c.first_above.result) c.len.ensures.value ∙ ap (λ o. unwrap_or o (length ps)) (c.first_above.ensures ∙ ap (position (nat_lt c.args.place)) c.deref.ensures.0))
    ∙ insert_is c.args.place ps
