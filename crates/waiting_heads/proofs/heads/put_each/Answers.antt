use Rattle.std.proofs.Common.{◌<◌, ◌++◌, ◌∷◌, [], ◌∙◌, ap, sym, refl, arith, length, length-append, map}
use Rattle.std.proofs.lemmas.List.{map-append, length-map}
use Rattle.std.proofs.lemmas.Option.{slice_get_read}
use Rattle.waiting_heads.proofs.Each.{put_next, place_in, rest_of, shift}
use Rattle.waiting_heads.proofs.heads.put_each.Goals as goal

pub lists-preserved : goal.lists-preserved
lists-preserved c =
    let inv = c.lists.invariant in
    let all = ap (λ l. c.lists.yielded ++ l) (sym c.in-Some.ensures.steps.0) ∙ inv.all in
    let items = c.lists.waiting.items in
    let inside : c.lists.at < length items = place_in c.lists.yielded c.next.new.self.rest.items c.args.lists.items c.in-Some.frames c.lists.at (length items) all inv.at (inv.put.count ∙ sym c.requires.each) in
    let there = slice_get_read items (length items) c.lists.at c.index_mut-here.result.now refl inside c.index_mut-here.ensures.value in
    record {
      can_next = tt;
      is_finite = tt;
      at = omega (arith, inv.at, length-append c.lists.yielded (c.in-Some.frames ∷ []));
      all = shift c.lists.yielded c.next.new.self.rest.items c.in-Some.frames ∙ all;
      few = rest_of _ c.lists.frames-iterator.rest.items c.next.new.self.rest.items c.in-Some.frames c.in-Some.ensures.steps.0 inv.few;
      put = put_next (map (λ v. v.items) c.lists.yielded) (map (λ v. v.items) (c.lists.yielded ++ c.in-Some.frames ∷ [])) c.args.waiting.now.items items _ c.in-Some.frames.items c.lists.at c.index_mut-here.result.now c.put_at.new.waiting (map-append (λ v. v.items) c.lists.yielded (c.in-Some.frames ∷ [])) (inv.at ∙ sym (length-map c.lists.yielded (λ v. v.items))) inv.put there refl c.put_at.ensures;
    }
