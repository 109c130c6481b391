use Rattle.std.proofs.Common.{◌≡◌, ◌≤◌, ◌++◌, ◌∷◌, [], List, length, ℕ, ap, sym, subst, arith, Result, Ok, Err}
use Rattle.std.specs.Prelude.{OnOk}
use Rattle.s3_devices.specs.LinkAnswers.{IsKeyPage, key_limit}
use Rattle.s3_devices.specs.declared.key_list.KeyItem.{KeyItem}
use Rattle.local_devices.specs.Pages.{ComesNext}
use Rattle.local_devices.proofs.KeyPages.{IsKeyPage-push, on_ok_from}
use Rattle.local_devices.proofs.listing.add.Goals as goal

pub returns : goal.returns
returns c =
    let item : KeyItem = record { key = c.in_ok-clone.field-0; len = c.args.len } in
    let next : ComesNext c.args.after.now c.args.page.now c.args.key.now = c.comes_next.ensures search in
    let short : length c.args.key.now ≤ 1024 = omega arith in
    let same : c.in_ok-clone.field-0 ≡ c.args.key.now = c.in_ok-clone.ensures.cases in
    let long : length c.in_ok-clone.field-0 ≡ length c.args.key.now = ap (λ (k : List ℕ). length k) same in
    let page : IsKeyPage c.args.after.now c.args.max (c.args.page.now ++ item ∷ []) =
    IsKeyPage-push c.args.after.now c.args.max c.args.page.now item c.requires.page c.requires.room
    (subst (ComesNext c.args.after.now c.args.page.now) (sym same) next) (omega (arith, long, short)) in
    record {
      page = on_ok_from c.push.result (λ (is : c.push.new.self ≡ c.args.page.now ++ item ∷ []). subst (IsKeyPage c.args.after.now c.args.max) (sym is) page) c.push.ensures.ok;
    }
