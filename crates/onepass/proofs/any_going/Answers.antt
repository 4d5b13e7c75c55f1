use Rattle.std.proofs.Common.{◌≡◌, ◌∙◌, rules}
use Rattle.onepass.specs.Pass.{is_going}
use Rattle.onepass.specs.Four.{any_going}
use Rattle.onepass.proofs.any_going.Goals as goal

pub returns : goal.returns
unfolding any_going
returns c =
    let p = c.args.p in
    let m = c.map.result in
    let e : m.first ≡ is_going p.first = search rules in
    let f : m.second ≡ is_going p.second = search rules in
    let g : m.third ≡ is_going p.third = search rules in
    let h : m.fourth ≡ is_going p.fourth = search rules in
    c.any.ensures ∙ rw (e, f, g, h)
