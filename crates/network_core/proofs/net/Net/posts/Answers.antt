use Rattle.net_model.specs.Environment.{meaning, unjudged}
use Rattle.std.proofs.Common.{◌≡◌, ◌+◌, ◌<◌, Some, None, refl, arith, ap, ◌∙◌, length}
use Rattle.network_core.specs.Worlds.{NetSeen}
use Rattle.network_core.specs.Answers.{said}
use Rattle.network_core.specs.Rounds.{PostsAt, InOrder, Posts}
use Rattle.network_core.proofs.Draining.{posts_more, posts_stop}
use Rattle.network_core.proofs.Driving.{drives_none, drives_map, drives_then, drives_counted}
use Rattle.network_core.proofs.Turning.{drives_post, posts_short, posts_all}
use Rattle.network_core.proofs.net.Net.posts.Goals as goal

pub places-init : goal.places-init
places-init g c = record {
  drives = λ judge. drives_none (meaning g.F.FlowSet.machine g.F.Spelt.reading judge) _ _ (λ W s w v. InOrder (PostsAt s) 0 0 w v) refl (λ W s w. (refl, refl));
  within = omega arith;
  count = refl;
}

pub places-preserved : goal.places-preserved
places-preserved g c =
    let p = c.places.place in
    let lt : p < length c.places.self.nodes = omega (arith, c.places.invariant.count, ap (λ (z : NetSeen). length z.nodes) c.self.view_is, c.self.inside.nodes.ok.0, c.len-count.ensures, c.places-test.true) in
    let one = drives_post (unjudged g.F.FlowSet.machine g.F.Spelt.reading) p c.places.self c.post.new.self c.post.result (Some c.in_ok-post.field-0) c.post.ensures (ap said c.in_ok-post.was) in
    record {
      drives =
          λ judge. drives_then (meaning g.F.FlowSet.machine g.F.Spelt.reading judge) _ _ _ (λ W s w v. InOrder (PostsAt s) p 0 w v) (λ W s w v. s.post p w (Some c.in_ok-post.field-0) v) (λ W s w v. InOrder (PostsAt s) (p + 1) 0 w v)
          (λ W s laws w u v a b. posts_more s p w u v c.in_ok-post.field-0 a b)
          (c.places.invariant.drives judge)
          (drives_post (meaning g.F.FlowSet.machine g.F.Spelt.reading judge) p c.places.self c.post.new.self c.post.result (Some c.in_ok-post.field-0) c.post.ensures (ap said c.in_ok-post.was));
      within = omega (arith, lt, c.places.invariant.count);
      count = one.count ∙ c.places.invariant.count;
    }

pub returns-in_err-post : goal.returns-in_err-post
returns-in_err-post g c =
    let p = c.places.place in
    let lt : p < length c.places.self.nodes = omega (arith, c.places.invariant.count, ap (λ (z : NetSeen). length z.nodes) c.self.view_is, c.self.inside.nodes.ok.0, c.len-count.ensures, c.places-test.true) in
    λ judge. drives_then (meaning g.F.FlowSet.machine g.F.Spelt.reading judge) _ _ _ (λ W s w v. (s.count w ≡ length c.args.self.now.nodes) × InOrder (PostsAt s) p 0 w v) (λ W s w v. s.post p w None v) (λ W s w v. Posts s w c.from_residual.result v)
    (λ W s laws w u v a b. posts_short s w v c.from_residual.result c.from_residual.ensures.0 (posts_stop s p w u v (omega (arith, a.0, c.places.invariant.count, lt)) a.1 b))
    (drives_counted (meaning g.F.FlowSet.machine g.F.Spelt.reading judge) _ _ (λ W s w v. InOrder (PostsAt s) p 0 w v) (c.places.invariant.drives judge))
    (drives_post (meaning g.F.FlowSet.machine g.F.Spelt.reading judge) p c.places.self c.post.new.self c.post.result None c.post.ensures (ap said c.in_err-post.was))

pub returns : goal.returns
returns g c =
    let p = c.places.place in
    let all : length c.args.self.now.nodes ≡ p = omega (arith, ap (λ (z : NetSeen). length z.nodes) c.self.view_is, c.self.inside.nodes.ok.0, c.len-count.ensures, c.places-test.false, c.places.invariant.within) in
    λ judge. drives_map (meaning g.F.FlowSet.machine g.F.Spelt.reading judge) _ _ (λ W s w v. (s.count w ≡ length c.args.self.now.nodes) × InOrder (PostsAt s) p 0 w v) (λ W s w v. InOrder (PostsAt s) (s.count w) 0 w v)
    (λ W s laws w v a. posts_all s p w v (a.0 ∙ all) a.1)
    (drives_counted (meaning g.F.FlowSet.machine g.F.Spelt.reading judge) _ _ (λ W s w v. InOrder (PostsAt s) p 0 w v) (c.places.invariant.drives judge))
