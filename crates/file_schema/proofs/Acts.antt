-- Where each foreign key only restricts, a write that is made is its one step.
use Rattle.std.proofs.Common.{◌≡◌, inl, inr, ℕ, zero, suc, List, [], ◌∷◌, ◌++◌, length, Bool, true, false, cond, ◌&&◌, Some, None, Option, Ok, refl, ap, subst, ℤ, ◌==◌, nat_lt}
use Rattle.std.proofs.lemmas.Bool.{cases_Bool}
use Rattle.std.specs.List.{list_all, flat_map, filter_map, cons_option}
use Rattle.sqlite_value.specs.Order.{Row}
use Rattle.sqlite_trees.specs.Tree.{Trees}
use Rattle.sqlite_schema.specs.declared.schema.Schema.{Schema}
use Rattle.sqlite_schema.specs.declared.schema.Table.{Table}
use Rattle.sqlite_schema.specs.declared.schema.Reference.{Reference}
use Rattle.sqlite_schema.specs.declared.schema.Action.{Action}
use Rattle.sqlite_schema.specs.declared.schema.Action.TheVariants.{Restrict, NoAction, Cascade, SetNull, SetDefault}
use Rattle.sqlite_schema.specs.declared.schema.Keys.TheVariants.{Enforced}
use Rattle.sqlite_schema.specs.Rules.{ParentKey}
use Rattle.sqlite_rules.specs.declared.action.Deed.{Deed}
use Rattle.sqlite_rules.specs.declared.action.Deed.TheVariants.{Refuse}
use Rattle.sqlite_rules.specs.Edit.{Edit, taken_by, Applies}
use Rattle.sqlite_rules.specs.Action.{Work, work_for, work_by, Leads, Writes, deed_for, deed_of, ActsOn, refuses, max_depth}
use Rattle.file_schema.specs.Plain.{restricts, only_refuses, only_restricts}

Refusing : List Work → Type 0
Refusing [] = Unit {0}
Refusing (w ∷ ws) = (w.deed ≡ Refuse) × Refusing ws

joined : (xs ys : List Work) → Refusing xs → Refusing ys → Refusing (xs ++ ys)
unfolding Refusing
joined [] ys p q = q
joined (x ∷ xs) ys p q = (p.0, joined xs ys p.1 q)

front : (xs : List Work) (w : Work) → Refusing (xs ++ w ∷ []) → Refusing xs × (w.deed ≡ Refuse)
unfolding Refusing
front [] w p = (tt, p.0)
front (x ∷ xs) w p = let more = front xs w p.1 in ((p.0, more.0), more.1)

refuses_by : (deletes : Bool) (a : Action) (deed : Deed) → restricts a ≡ true → deed_of Enforced deletes a ≡ Some deed → deed ≡ Refuse
refuses_by deletes NoAction deed ok e = absurd cc
refuses_by deletes Restrict deed ok e = cc
refuses_by deletes Cascade deed ok e = absurd cc
refuses_by deletes SetNull deed ok e = absurd cc
refuses_by deletes SetDefault deed ok e = absurd cc

both : (a b : Bool) → (a && b) ≡ true → (a ≡ true) × (b ≡ true)
both true true e = (refl, refl)
both true false e = absurd cc
both false b e = absurd cc

refuses_for : (deletes : Bool) (ref : Reference) (deed : Deed) → only_refuses ref ≡ true → deed_for Enforced deletes ref ≡ Some deed → deed ≡ Refuse
refuses_for true ref deed ok e = refuses_by true ref.on_delete deed (both _ _ ok).0 e
refuses_for false ref deed ok e = refuses_by false ref.on_update deed (both _ _ ok).1 e

if_some : {A : Type 0} (b : Bool) (w x : A) → cond b (Some w) None ≡ Some x → w ≡ x
if_some true w x e = cc
if_some false w x e = absurd cc

made_by : (depth tree : ℕ) (moves : List (Row × Row)) (child : Table) (ref : Reference) (deed : Option Deed) (key : Option ParentKey) (w : Work)
    → work_by depth tree moves child ref deed key ≡ Some w → deed ≡ Some w.deed
made_by depth tree moves child ref None key w e = absurd cc
made_by depth tree moves child ref (Some deed) None w e = absurd cc
made_by depth tree moves child ref (Some deed) (Some key) w e = let same = if_some _ _ w e in ap (λ (x : Work). Some x.deed) same

one_more : (w : Option Work) (ws : List Work) → ((x : Work) → w ≡ Some x → x.deed ≡ Refuse) → Refusing ws → Refusing (cons_option w ws)
unfolding Refusing
one_more None ws p q = q
one_more (Some x) ws p q = (p x refl, q)

module _ (schema : Schema) (depth tree : ℕ) (olds news : List Row) where
  of_refs : (child : Table) (refs : List Reference) → list_all only_refuses refs ≡ true → Refusing (filter_map (work_for schema Enforced depth tree olds news child) refs)
  unfolding Refusing
  of_refs child [] ok = tt
  of_refs child (r ∷ refs) ok =
      let parts = both _ _ ok in
      one_more (work_for schema Enforced depth tree olds news child r) _
      (λ x e. refuses_for (length news == 0) r x.deed parts.0 (made_by depth tree _ child r _ _ x e))
      (of_refs child refs parts.1)

  of_tables : (tables : List Table) → list_all (λ (t : Table). list_all only_refuses t.references) tables ≡ true
      → Refusing (flat_map (λ child. filter_map (work_for schema Enforced depth tree olds news child) child.references) tables)
  unfolding Refusing
  of_tables [] ok = tt
  of_tables (t ∷ more) ok = let parts = both _ _ ok in joined _ _ (of_refs t t.references parts.0) (of_tables more parts.1)

refused : (d : Deed) → d ≡ Refuse → refuses d ≡ true
refused d e = rw e

module _ (schema : Schema) where
  acted : (n : ℕ) (db next : Trees) (w : Work) (below : List Work) (ids : List ℤ) → (Leads schema Enforced n db below (Ok next) → db ≡ next)
      → ActsOn schema Enforced (Leads schema Enforced n) db w below (Ok next) ids → w.deed ≡ Refuse → db ≡ next
  acted n db next w below [] on h deed = on h
  acted n db next w below (id ∷ ids) on h deed = absurd (let e = rw (refused w.deed deed) at h in cc)

  stays : (n : ℕ) (db next : Trees) (stack : List Work) → Refusing stack → Leads schema Enforced n db stack (Ok next) → db ≡ next
  stays zero db next stack all h = let e = h.1 in cc
  stays (suc n) db next stack all h =
      let parts = front h.0 h.1 (subst Refusing h.2 all) in
      elim (cases_Bool (nat_lt h.1.depth max_depth)) [
        | inl in_time ↦ let it = rw in_time at h.3 in acted n db next h.1 h.0 it.0 (stays n db next h.0 parts.0) it.2 parts.1
        | inr late ↦ absurd (let e = rw late at h.3 in cc)
      ]

  pub one_step : only_restricts schema ≡ true → (db next : Trees) (edit : Edit) → Writes schema Enforced db edit (Ok next) → Applies schema Enforced db edit next
  one_step ok db next edit (inl refused) = absurd (let e = refused.2 in cc)
  one_step ok db next edit (inr (inl big)) = absurd (let e = big.3 in cc)
  one_step ok db next edit (inr (inr went)) =
      subst (Applies schema Enforced db edit) (stays went.2.0 went.0 next _ (of_tables schema 0 edit.table.tree (taken_by db edit) edit.news schema.tables ok) went.2.1) went.1
