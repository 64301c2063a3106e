-- How many bytes a change of sessions has at most.
use Rattle.std.proofs.Common.{◌+◌, ◌*◌, ◌≤◌, ℕ, suc, Bool, true, false, cond, List, [], ◌∷◌, ◌++◌, filter, length, Option, Some, None, ap, arith}
use Rattle.std.specs.Prelude.{IfSome}
use Rattle.std.specs.List.{flat_map, AllByRecursion}
use Rattle.std.specs.Int.{w32}
use Rattle.std.proofs.lemmas.List.{length-append}
use Rattle.std.proofs.lemmas.List.Concat.{flat_map-cons}
use Rattle.net_base.specs.declared.names.Key.{Key}
use Rattle.net_base.specs.declared.values.Party.{Party}
use Rattle.net_base.specs.Reading.{number}
use Rattle.net_base.specs.Forms.{option_of, list8}
use Rattle.net_base.specs.Values.{party}
use Rattle.net_base.specs.Names.{key}
use Rattle.session_wire.specs.declared.body.Body.{Body}
use Rattle.session_wire.specs.declared.body.Body.TheVariants as body
use Rattle.session_wire.specs.declared.change.SentItem.{SentItem}
use Rattle.session_wire.specs.Bodies.{IsBody, body_text}
use Rattle.session_wire.proofs.Sizes.{body_fits}
use Rattle.transition_record.specs.Changes.{IsSentItem, sent_item, opened_text, taken_text}
use Rattle.flow_records.specs.Steps.{carries_value, FewValuesAreShort}
use Rattle.ledger_types.proofs.Sizes.{number16_fits, number32_fits, joined}
use Rattle.flow_records.proofs.Sizes.{key_short}

-- an item is long only where it carries a value
body_short : (b : Body) → IsBody b → length (body_text b) ≤ 3 + cond (carries_value b) 9809 0
body_short (body.Init class first) h = let fits = body_fits (body.Init class first) h in omega (arith, fits)
body_short body.Confirm h = omega arith
body_short (body.Reject code) h = let fits = number16_fits code in omega (arith, fits)
body_short (body.Data value) h = let fits = body_fits (body.Data value) h in omega (arith, fits)
body_short (body.Error code) h = let fits = number16_fits code in omega (arith, fits)
body_short body.End h = omega arith

item_short : (i : SentItem) → IsSentItem i → length (sent_item i) ≤ 13 + cond (carries_value i.body) 9809 0
item_short i h =
    let value = cond (carries_value i.body) 9809 0 in
    let behind = joined (number w32 i.seq) (body_text i.body) 4 (3 + value) (number32_fits i.seq) (body_short i.body h.1.1.1) in
    let all = joined (key i.key) (i.direction ∷ (number w32 i.seq ++ body_text i.body)) 5 (8 + value) (key_short i.key) (omega (arith, behind)) in
    omega (arith, all)

-- one more item, which carries a value or not
one_more : (b : Bool) (i : SentItem) (items values : List SentItem) (n : ℕ) → n ≤ 13 + cond b 9809 0 + (length items * 13 + length values * 9809) → n ≤ suc (length items) * 13 + length (cond b (i ∷ values) values) * 9809
one_more true i items values n h = omega (arith, h)
one_more false i items values n h = omega (arith, h)

items_short : (items : List SentItem) → AllByRecursion IsSentItem items → length (flat_map sent_item items) ≤ length items * 13 + length (filter (λ (item : SentItem). carries_value item.body) items) * 9809
items_short [] all = omega arith
items_short (i ∷ items) all =
    let rest = items_short items all.1 in
    let one = item_short i all.0 in
    let parts = ap length (flat_map-cons sent_item i items) in
    let both = length-append (sent_item i) (flat_map sent_item items) in
    one_more (carries_value i.body) i items (filter (λ (item : SentItem). carries_value item.body) items) (length (flat_map sent_item (i ∷ items))) (omega (arith, rest, one, parts, both))

opened_short : (o : Option (Key × Party)) → length (option_of opened_text o) ≤ 7
opened_short None = omega arith
opened_short (Some p) = let parts = joined (key p.0) (party p.1) 5 1 (key_short p.0) (omega arith) in omega (arith, parts)

came_short : (o : Option Body) → IfSome o IsBody → length (option_of body_text o) ≤ 9813
came_short None h = omega arith
came_short (Some b) h = let fits = body_fits b h in omega (arith, fits)

taken_short : (o : Option (Key × ℕ)) → length (option_of taken_text o) ≤ 10
taken_short None = omega arith
taken_short (Some p) = let parts = joined (key p.0) (number w32 p.1) 5 4 (key_short p.0) (number32_fits p.1) in omega (arith, parts)

pub few_values_are_short : FewValuesAreShort
few_values_are_short s h few =
    let items = items_short s.sent h.1.0.1 in
    let sent : length (list8 sent_item s.sent) ≤ 32743 = omega (arith, items, few, h.1.0.0) in
    let behind = joined (option_of body_text s.came) (option_of taken_text s.taken) 9813 10 (came_short s.came h.1.1.0) (taken_short s.taken) in
    let rest = joined (list8 sent_item s.sent) (option_of body_text s.came ++ option_of taken_text s.taken) 32743 9823 sent behind in
    let all = joined (option_of opened_text s.opened) (list8 sent_item s.sent ++ (option_of body_text s.came ++ option_of taken_text s.taken)) 7 42566 (opened_short s.opened) rest in
    omega (arith, all)
