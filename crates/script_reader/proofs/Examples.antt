-- Scripts that are refused, by the definitions alone, with the line and the cause, and scripts that are taken, with their
-- sections.
use Rattle.std.proofs.Common.{◌≡◌, ℕ, pos, List, [], ◌∷◌, ◌++◌, refl}
use Rattle.std.specs.Prelude.{codes, Ok, Err}
use Rattle.ids_core.specs.declared.limits.TheConstants.{MOST_RECORDS}
use Rattle.obj_bounded.specs.CellNames.{counter_of}
use Rattle.dc_talk.specs.declared.calls.Change.TheVariants.{Inc}
use Rattle.dc_talk.specs.declared.links.LinkFault.TheVariants as fault
use Rattle.script_core.specs.declared.script.Script.{Script}
use Rattle.script_core.specs.declared.script.TheConstants.{DEFAULT_CACHE, DEFAULT_THREADS, DEFAULT_ROUNDS}
use Rattle.script_core.specs.declared.steps.Section.{Section}
use Rattle.script_core.specs.declared.steps.Share.{Share}
use Rattle.script_core.specs.declared.steps.ClientStep.{ClientStep}
use Rattle.script_core.specs.declared.steps.ClientStep.TheVariants.{Begin, Change, Read, Grant, Give, Take, Rights, Look}
use Rattle.script_core.specs.declared.steps.OperatorStep.TheVariants.{Down, Up, Relay, Link, Settle, Feed}
use Rattle.script_core.specs.declared.steps.Step.TheVariants.{Client, Operator}
use Rattle.script_core.specs.declared.taps.Tapped.{Tapped}
use Rattle.script_core.specs.Rows.{phase_of, section_of}
use Rattle.script_reader.specs.declared.fault.Cause.{Cause}
use Rattle.script_reader.specs.declared.fault.Cause.TheVariants as cause
use Rattle.script_reader.specs.declared.fault.ScriptFault.TheVariants.{Refused}
use Rattle.script_reader.specs.Words.{words_of}
use Rattle.script_reader.specs.Numbers.{number_in, delta_in}
use Rattle.script_reader.specs.Names.{object_named}
use Rattle.script_reader.specs.Shares.{bounded_in}
use Rattle.script_reader.specs.Forms.{form_among}
use Rattle.script_reader.specs.Said.{said_word}
use Rattle.script_reader.specs.Rows.{row_of, row_in_text, row_in}
use Rattle.script_reader.specs.Readings.{may_stand, read_more}
use Rattle.script_reader.specs.Scripts.{script_read}

-- this line behind the two of a header with one centre and one client is refused so
abbrev RefusedThird : List ℕ → Cause → Type 0
RefusedThird line why = script_read (codes "centres 1 k 1\nclients 1\n" ++ line) ≡ Err (Refused 3 why)

unknown_word : RefusedThird (codes "c1 begi\n") cause.Word
unfolding script_read words_of number_in delta_in object_named form_among said_word row_of row_in_text row_in may_stand read_more
unknown_word = refl

too_many_words : RefusedThird (codes "c1 begin now\n") cause.Count
unfolding script_read words_of number_in delta_in object_named form_among said_word row_of row_in_text row_in may_stand read_more
too_many_words = refl

a_leading_zero : RefusedThird (codes "c1 inc c.a 05\n") cause.Number
unfolding script_read words_of number_in delta_in object_named form_among said_word row_of row_in_text row_in may_stand read_more
a_leading_zero = refl

a_minus_zero : RefusedThird (codes "c1 inc c.a -0\n") cause.Number
unfolding script_read words_of number_in delta_in object_named form_among said_word row_of row_in_text row_in may_stand read_more
a_minus_zero = refl

no_such_client : RefusedThird (codes "c2 begin\n") cause.Range
unfolding script_read words_of number_in delta_in object_named form_among said_word row_of row_in_text row_in may_stand read_more
no_such_client = refl

no_such_centre : RefusedThird (codes "down 0\n") cause.Range
unfolding script_read words_of number_in delta_in object_named form_among said_word row_of row_in_text row_in may_stand read_more
no_such_centre = refl

too_large_a_delta : RefusedThird (codes "c1 inc c.a 1000000000001\n") cause.Range
unfolding script_read words_of number_in delta_in object_named form_among said_word row_of row_in_text row_in may_stand read_more
too_large_a_delta = refl

no_object : RefusedThird (codes "c1 inc C.a 5\n") cause.Name
unfolding script_read words_of number_in delta_in object_named form_among said_word row_of row_in_text row_in may_stand read_more
no_object = refl

of_another_kind : RefusedThird (codes "c1 inc s.a 5\n") cause.Kind
unfolding script_read words_of number_in delta_in object_named form_among said_word row_of row_in_text row_in may_stand read_more
of_another_kind = refl

again_a_header_line : RefusedThird (codes "clients 1\n") cause.Place
unfolding script_read words_of number_in delta_in object_named form_among said_word row_of row_in_text row_in may_stand read_more
again_a_header_line = refl

a_client_without_digits : RefusedThird (codes "c begin\n") cause.Word
unfolding script_read words_of number_in delta_in object_named form_among said_word row_of row_in_text row_in may_stand read_more
a_client_without_digits = refl

a_client_with_a_letter : RefusedThird (codes "c1x begin\n") cause.Word
unfolding script_read words_of number_in delta_in object_named form_among said_word row_of row_in_text row_in may_stand read_more
a_client_with_a_letter = refl

a_client_with_a_zero : RefusedThird (codes "c01 begin\n") cause.Number
unfolding script_read words_of number_in delta_in object_named form_among said_word row_of row_in_text row_in may_stand read_more
a_client_with_a_zero = refl

client_nought : RefusedThird (codes "c0 begin\n") cause.Range
unfolding script_read words_of number_in delta_in object_named form_among said_word row_of row_in_text row_in may_stand read_more
client_nought = refl

a_client_alone : RefusedThird (codes "c1\n") cause.Count
unfolding script_read words_of number_in delta_in object_named form_among said_word row_of row_in_text row_in may_stand read_more
a_client_alone = refl

a_fault_of_another_word : RefusedThird (codes "c1 lose it now\n") cause.Word
unfolding script_read words_of number_in delta_in object_named form_among said_word row_of row_in_text row_in may_stand read_more
a_fault_of_another_word = refl

a_link_without_a_fault : RefusedThird (codes "link 1 2\n") cause.Count
unfolding script_read words_of number_in delta_in object_named form_among said_word row_of row_in_text row_in may_stand read_more
a_link_without_a_fault = refl

a_clean_link_with_a_number : RefusedThird (codes "link 1 2 clean 3\n") cause.Count
unfolding script_read words_of number_in delta_in object_named form_among said_word row_of row_in_text row_in may_stand read_more
a_clean_link_with_a_number = refl

a_link_to_itself : RefusedThird (codes "link 1 1 drop 0\n") cause.Range
unfolding script_read words_of number_in delta_in object_named form_among said_word row_of row_in_text row_in may_stand read_more
a_link_to_itself = refl

a_word_behind_equal_centres : RefusedThird (codes "ship 1 1 x\n") cause.Range
unfolding script_read words_of number_in delta_in object_named form_among said_word row_of row_in_text row_in may_stand read_more
a_word_behind_equal_centres = refl

a_phase_of_something : RefusedThird (codes "phase 1\n") cause.Count
unfolding script_read words_of number_in delta_in object_named form_among said_word row_of row_in_text row_in may_stand read_more
a_phase_of_something = refl

-- these lines behind the two of a header with two centres and one client are refused so, at the line of this number
abbrev RefusedAt : ℕ → List ℕ → Cause → Type 0
RefusedAt number lines why = script_read (codes "centres 2 k 1\nclients 1\n" ++ lines) ≡ Err (Refused number why)

a_phase_in_a_phase : RefusedAt 4 (codes "phase\nphase\nend\nend\n") cause.Place
unfolding script_read words_of number_in delta_in object_named form_among said_word row_of row_in_text row_in may_stand read_more
a_phase_in_a_phase = refl

an_end_without_a_phase : RefusedAt 4 (codes "c1 begin\nend\n") cause.Place
unfolding script_read words_of number_in delta_in object_named form_among said_word row_of row_in_text row_in may_stand read_more
an_end_without_a_phase = refl

an_end_behind_an_end : RefusedAt 5 (codes "phase\nend\nend\n") cause.Place
unfolding script_read words_of number_in delta_in object_named form_among said_word row_of row_in_text row_in may_stand read_more
an_end_behind_an_end = refl

settling_in_a_phase : RefusedAt 4 (codes "phase\nsettle\nend\n") cause.Place
unfolding script_read words_of number_in delta_in object_named form_among said_word row_of row_in_text row_in may_stand read_more
settling_in_a_phase = refl

a_link_in_a_phase : RefusedAt 4 (codes "phase\nlink 1 2 clean\nend\n") cause.Place
unfolding script_read words_of number_in delta_in object_named form_among said_word row_of row_in_text row_in may_stand read_more
a_link_in_a_phase = refl

a_setting_in_a_phase : RefusedAt 4 (codes "phase\ncache 5\nend\n") cause.Place
unfolding script_read words_of number_in delta_in object_named form_among said_word row_of row_in_text row_in may_stand read_more
a_setting_in_a_phase = refl

a_setting_behind_a_phase : RefusedAt 5 (codes "phase\nend\nrounds 5\n") cause.Place
unfolding script_read words_of number_in delta_in object_named form_among said_word row_of row_in_text row_in may_stand read_more
a_setting_behind_a_phase = refl

a_phase_that_does_not_end : RefusedAt 5 (codes "phase\nc1 begin\n") cause.Place
unfolding script_read words_of number_in delta_in object_named form_among said_word row_of row_in_text row_in may_stand read_more
a_phase_that_does_not_end = refl

a_phase_that_just_begins : RefusedAt 4 (codes "phase") cause.Place
unfolding script_read words_of number_in delta_in object_named form_among said_word row_of row_in_text row_in may_stand read_more
a_phase_that_just_begins = refl

a_fault_of_no_item : RefusedAt 3 (codes "link 1 2 drop 0\n") cause.Range
unfolding script_read words_of number_in delta_in object_named form_among said_word row_of row_in_text row_in may_stand read_more
a_fault_of_no_item = refl

a_fault_of_too_many_items : RefusedAt 3 (codes "link 1 2 hold 1000001\n") cause.Range
unfolding script_read words_of number_in delta_in object_named form_among said_word row_of row_in_text row_in may_stand read_more
a_fault_of_too_many_items = refl

a_link_to_the_same_centre : RefusedAt 3 (codes "link 2 2 twice 1\n") cause.Range
unfolding script_read words_of number_in delta_in object_named form_among said_word row_of row_in_text row_in may_stand read_more
a_link_to_the_same_centre = refl

a_cut_of_no_item : RefusedAt 3 (codes "link 1 2 cut 0\n") cause.Range
unfolding script_read words_of number_in delta_in object_named form_among said_word row_of row_in_text row_in may_stand read_more
a_cut_of_no_item = refl

a_bend_of_too_many_items : RefusedAt 3 (codes "link 2 1 bend 1000001\n") cause.Range
unfolding script_read words_of number_in delta_in object_named form_among said_word row_of row_in_text row_in may_stand read_more
a_bend_of_too_many_items = refl

a_bend_without_a_number : RefusedAt 3 (codes "link 1 2 bend\n") cause.Count
unfolding script_read words_of number_in delta_in object_named form_among said_word row_of row_in_text row_in may_stand read_more
a_bend_without_a_number = refl

a_cut_on_the_way_to_itself : RefusedAt 3 (codes "link 1 1 cut 2\n") cause.Range
unfolding script_read words_of number_in delta_in object_named form_among said_word row_of row_in_text row_in may_stand read_more
a_cut_on_the_way_to_itself = refl

a_link_that_snaps : RefusedAt 3 (codes "link 1 2 snap 2\n") cause.Word
unfolding script_read words_of number_in delta_in object_named form_among said_word row_of row_in_text row_in may_stand read_more
a_link_that_snaps = refl

-- ---- relays

-- this line behind the two of a header with three centres and one client is refused so
abbrev RefusedOfThree : List ℕ → Cause → Type 0
RefusedOfThree line why = script_read (codes "centres 3 k 1\nclients 1\n" ++ line) ≡ Err (Refused 3 why)

a_relay_over_its_origin : RefusedOfThree (codes "relay 2 2 x\n") cause.Range
unfolding script_read words_of number_in delta_in object_named form_among said_word row_of row_in_text row_in may_stand read_more
a_relay_over_its_origin = refl

a_relay_back : RefusedOfThree (codes "relay 1 2 1\n") cause.Range
unfolding script_read words_of number_in delta_in object_named form_among said_word row_of row_in_text row_in may_stand read_more
a_relay_back = refl

a_relay_to_its_origin : RefusedOfThree (codes "relay 1 2 2\n") cause.Range
unfolding script_read words_of number_in delta_in object_named form_among said_word row_of row_in_text row_in may_stand read_more
a_relay_to_its_origin = refl

a_relay_to_no_centre : RefusedOfThree (codes "relay 1 2 4\n") cause.Range
unfolding script_read words_of number_in delta_in object_named form_among said_word row_of row_in_text row_in may_stand read_more
a_relay_to_no_centre = refl

a_relay_without_a_third_centre : RefusedOfThree (codes "relay 1 2\n") cause.Count
unfolding script_read words_of number_in delta_in object_named form_among said_word row_of row_in_text row_in may_stand read_more
a_relay_without_a_third_centre = refl

a_relay_of_a_record : RefusedOfThree (codes "relay 1 2 3 4\n") cause.Count
unfolding script_read words_of number_in delta_in object_named form_among said_word row_of row_in_text row_in may_stand read_more
a_relay_of_a_record = refl

a_relay_to_a_word : RefusedOfThree (codes "relay 1 2 x\n") cause.Number
unfolding script_read words_of number_in delta_in object_named form_among said_word row_of row_in_text row_in may_stand read_more
a_relay_to_a_word = refl

-- ---- bounded counters

-- this line behind the two of a header with one centre and twelve clients is refused so
abbrev RefusedOfTwelve : List ℕ → Cause → Type 0
RefusedOfTwelve line why = script_read (codes "centres 1 k 1\nclients 12\n" ++ line) ≡ Err (Refused 3 why)

a_ninth_holder : RefusedOfTwelve (codes "c9 take B.x 0\n") cause.Range
unfolding script_read words_of number_in delta_in object_named bounded_in form_among said_word row_of row_in_text row_in may_stand read_more
a_ninth_holder = refl

a_gift_to_a_ninth_holder : RefusedOfTwelve (codes "c1 give b.x 9 5\n") cause.Range
unfolding script_read words_of number_in delta_in object_named bounded_in form_among said_word row_of row_in_text row_in may_stand read_more
a_gift_to_a_ninth_holder = refl

a_gift_to_oneself : RefusedOfTwelve (codes "c2 give b.x 2 x\n") cause.Range
unfolding script_read words_of number_in delta_in object_named bounded_in form_among said_word row_of row_in_text row_in may_stand read_more
a_gift_to_oneself = refl

a_gift_to_a_word : RefusedOfTwelve (codes "c2 give b.x one 0\n") cause.Number
unfolding script_read words_of number_in delta_in object_named bounded_in form_among said_word row_of row_in_text row_in may_stand read_more
a_gift_to_a_word = refl

an_amount_of_nothing : RefusedOfTwelve (codes "c8 take b.x 0\n") cause.Range
unfolding script_read words_of number_in delta_in object_named bounded_in form_among said_word row_of row_in_text row_in may_stand read_more
an_amount_of_nothing = refl

too_large_an_amount : RefusedOfTwelve (codes "c8 grant b.x 1000000000001\n") cause.Range
unfolding script_read words_of number_in delta_in object_named bounded_in form_among said_word row_of row_in_text row_in may_stand read_more
too_large_an_amount = refl

an_amount_below_zero : RefusedOfTwelve (codes "c8 grant b.x -5\n") cause.Number
unfolding script_read words_of number_in delta_in object_named bounded_in form_among said_word row_of row_in_text row_in may_stand read_more
an_amount_below_zero = refl

no_bounded_counter : RefusedOfTwelve (codes "c8 take B.x 0\n") cause.Name
unfolding script_read words_of number_in delta_in object_named bounded_in form_among said_word row_of row_in_text row_in may_stand read_more
no_bounded_counter = refl

a_counter_that_is_not_bounded : RefusedOfTwelve (codes "c8 rights c.x\n") cause.Name
unfolding script_read words_of number_in delta_in object_named bounded_in form_among said_word row_of row_in_text row_in may_stand read_more
a_counter_that_is_not_bounded = refl

too_long_a_name : RefusedOfTwelve (codes "c8 rights b.abcdefghijklmnopqrstuvwxyz\n") cause.Name
unfolding script_read words_of number_in delta_in object_named bounded_in form_among said_word row_of row_in_text row_in may_stand read_more
too_long_a_name = refl

rights_of_two_words : RefusedOfTwelve (codes "c8 rights b.x 5\n") cause.Count
unfolding script_read words_of number_in delta_in object_named bounded_in form_among said_word row_of row_in_text row_in may_stand read_more
rights_of_two_words = refl

an_addition_to_a_cell : RefusedOfTwelve (codes "c1 inc c.bc_x_1_1 x\n") cause.Name
unfolding script_read words_of number_in delta_in object_named bounded_in form_among said_word row_of row_in_text row_in may_stand read_more
an_addition_to_a_cell = refl

an_addition_to_a_set : RefusedOfTwelve (codes "c1 inc s.bc_x 5\n") cause.Kind
unfolding script_read words_of number_in delta_in object_named bounded_in form_among said_word row_of row_in_text row_in may_stand read_more
an_addition_to_a_set = refl

a_gift_of_one_holder : RefusedThird (codes "c1 give b.x 2 5\n") cause.Range
unfolding script_read words_of number_in delta_in object_named bounded_in form_among said_word row_of row_in_text row_in may_stand read_more
a_gift_of_one_holder = refl

-- ---- taps

a_tap_twice : RefusedAt 4 (codes "tap 1 c.a\ntap 1 c.a\n") cause.Place
unfolding script_read words_of number_in delta_in object_named form_among said_word row_of row_in_text row_in may_stand read_more
a_tap_twice = refl

a_ninth_tap : RefusedAt 11 (codes "tap 1 c.a\ntap 2 c.a\ntap 1 r.a\ntap 2 r.a\ntap 1 s.a\ntap 2 s.a\ntap 1 m.a\ntap 2 m.a\ntap 1 c.b\n") cause.Place
unfolding script_read words_of number_in delta_in object_named form_among said_word row_of row_in_text row_in may_stand read_more
a_ninth_tap = refl

a_tap_of_no_centre : RefusedAt 3 (codes "tap 3 c.a\n") cause.Range
unfolding script_read words_of number_in delta_in object_named form_among said_word row_of row_in_text row_in may_stand read_more
a_tap_of_no_centre = refl

a_tap_of_no_object : RefusedAt 3 (codes "tap 1 c.A\n") cause.Name
unfolding script_read words_of number_in delta_in object_named form_among said_word row_of row_in_text row_in may_stand read_more
a_tap_of_no_object = refl

a_tap_of_no_object_at_all : RefusedAt 3 (codes "tap 1\n") cause.Count
unfolding script_read words_of number_in delta_in object_named form_among said_word row_of row_in_text row_in may_stand read_more
a_tap_of_no_object_at_all = refl

a_tap_behind_a_step : RefusedAt 4 (codes "c1 begin\ntap 1 c.a\n") cause.Place
unfolding script_read words_of number_in delta_in object_named form_among said_word row_of row_in_text row_in may_stand read_more
a_tap_behind_a_step = refl

a_tap_behind_a_phase : RefusedAt 5 (codes "phase\nend\ntap 1 c.a\n") cause.Place
unfolding script_read words_of number_in delta_in object_named form_among said_word row_of row_in_text row_in may_stand read_more
a_tap_behind_a_phase = refl

a_tap_in_a_phase : RefusedAt 4 (codes "phase\ntap 1 c.a\nend\n") cause.Place
unfolding script_read words_of number_in delta_in object_named form_among said_word row_of row_in_text row_in may_stand read_more
a_tap_in_a_phase = refl

a_feed_of_no_tap : RefusedAt 4 (codes "tap 1 c.a\nfeed 2\n") cause.Range
unfolding script_read words_of number_in delta_in object_named form_among said_word row_of row_in_text row_in may_stand read_more
a_feed_of_no_tap = refl

a_feed_of_no_tap_in_a_phase : RefusedAt 5 (codes "tap 1 c.a\nphase\nfeed 2\nend\n") cause.Range
unfolding script_read words_of number_in delta_in object_named form_among said_word row_of row_in_text row_in may_stand read_more
a_feed_of_no_tap_in_a_phase = refl

a_look_at_another_object : RefusedAt 4 (codes "tap 1 c.a\nc1 tap 1 c.b\n") cause.Range
unfolding script_read words_of number_in delta_in object_named form_among said_word row_of row_in_text row_in may_stand read_more
a_look_at_another_object = refl

a_look_through_another_tap : RefusedAt 4 (codes "tap 1 c.a\nc1 tap 2 c.a\n") cause.Range
unfolding script_read words_of number_in delta_in object_named form_among said_word row_of row_in_text row_in may_stand read_more
a_look_through_another_tap = refl

a_look_at_no_object : RefusedAt 4 (codes "tap 1 c.a\nc1 tap 2 a\n") cause.Name
unfolding script_read words_of number_in delta_in object_named form_among said_word row_of row_in_text row_in may_stand read_more
a_look_at_no_object = refl

a_look_at_another_object_in_a_phase : RefusedAt 5 (codes "tap 1 c.a\nphase\nc1 tap 1 c.b\nend\n") cause.Range
unfolding script_read words_of number_in delta_in object_named form_among said_word row_of row_in_text row_in may_stand read_more
a_look_at_another_object_in_a_phase = refl

a_feed_before_the_clients : script_read (codes "centres 2 k 1\nfeed 1\n") ≡ Err (Refused 2 cause.Place)
unfolding script_read words_of number_in delta_in object_named form_among said_word row_of row_in_text row_in may_stand read_more
a_feed_before_the_clients = refl

a_look_before_the_clients : script_read (codes "centres 2 k 1\nc1 tap 1 c.a\n") ≡ Err (Refused 2 cause.Place)
unfolding script_read words_of number_in delta_in object_named form_among said_word row_of row_in_text row_in may_stand read_more
a_look_before_the_clients = refl

a_tap_before_the_clients : script_read (codes "centres 2 k 1\ntap 1 c.a\n") ≡ Err (Refused 2 cause.Place)
unfolding script_read words_of number_in delta_in object_named form_among said_word row_of row_in_text row_in may_stand read_more
a_tap_before_the_clients = refl

-- ---- scripts that are taken

-- the script with these sections, of two centres, with one client and no settings
abbrev plain_script : List Section → Script
plain_script sections = record { n = 2; k = 1; clients = 1; cache = DEFAULT_CACHE; limit = MOST_RECORDS; threads = DEFAULT_THREADS; rounds = DEFAULT_ROUNDS; taps = []; sections = sections }

-- these lines behind the header of such a script are these sections
abbrev Reads : List ℕ → List Section → Type 0
Reads lines sections = script_read (codes "centres 2 k 1\nclients 1\n" ++ lines) ≡ Ok (plain_script sections)

an_empty_phase : Reads (codes "phase\nend\n") (phase_of [] ∷ [])
unfolding script_read words_of number_in delta_in object_named form_among said_word row_of row_in_text row_in may_stand read_more
an_empty_phase = refl

steps_around_a_phase : Reads (codes "settle\nphase\nc1 begin\n# a\ndown 1\nend\nup 1\n") (section_of (Operator Settle) ∷ phase_of (Client 1 Begin ∷ Operator (Down 1) ∷ []) ∷ section_of (Operator (Up 1)) ∷ [])
unfolding script_read words_of number_in delta_in object_named form_among said_word row_of row_in_text row_in may_stand read_more
steps_around_a_phase = refl

two_phases : Reads (codes "phase\nup 1\nend\nphase\ndown 2\nend\n") (phase_of (Operator (Up 1) ∷ []) ∷ phase_of (Operator (Down 2) ∷ []) ∷ [])
unfolding script_read words_of number_in delta_in object_named form_among said_word row_of row_in_text row_in may_stand read_more
two_phases = refl

faults_of_links : Reads (codes "link 1 2 hold 3\nlink 2 1 drop 1\nlink 1 2 twice 2\nlink 2 1 cut 4\nlink 1 2 bend 5\nlink 1 2 clean\n") (section_of (Operator (Link 1 2 (fault.Hold 3))) ∷ section_of (Operator (Link 2 1 (fault.Drop 1))) ∷ section_of (Operator (Link 1 2 (fault.Twice 2))) ∷ section_of (Operator (Link 2 1 (fault.Cut 4))) ∷ section_of (Operator (Link 1 2 (fault.Bend 5))) ∷ section_of (Operator (Link 1 2 fault.Clean)) ∷ [])
unfolding script_read words_of number_in delta_in object_named form_among said_word row_of row_in_text row_in may_stand read_more
faults_of_links = refl

a_relay : script_read (codes "centres 3 k 1\nclients 1\nrelay 3 1 2\nphase\nrelay 1 2 3\nend\n") ≡ Ok (record (plain_script (section_of (Operator (Relay 3 1 2)) ∷ phase_of (Operator (Relay 1 2 3) ∷ []) ∷ [])) { n = 3 })
unfolding script_read words_of number_in delta_in object_named form_among said_word row_of row_in_text row_in may_stand read_more
a_relay = refl

-- a share of one of eight holders in the bounded counter `b.x`
abbrev share_of : ℕ → Share
share_of holder = record { name = codes "x"; holder = holder; holders = 8 }

-- a step of a client, as a section of its own
abbrev does : ℕ → ClientStep → Section
does client step = section_of (Client client step)

steps_of_bounded_counters : script_read (codes "centres 2 k 1\nclients 12\nc8 grant b.x 1000000000000\nc8 give b.x 1 4\nc1 take b.x 1\nc2 rights b.x\n") ≡ Ok (record (plain_script (does 8 (Grant (share_of 8) 1000000000000) ∷ does 8 (Give (share_of 8) 1 4) ∷ does 1 (Take (share_of 1) 1) ∷ does 2 (Rights (share_of 2)) ∷ [])) { clients = 12 })
unfolding script_read words_of number_in delta_in object_named bounded_in form_among said_word row_of row_in_text row_in may_stand read_more
steps_of_bounded_counters = refl

the_longest_name : Reads (codes "c1 rights b.abcdefghijklmnopqrstuvwxy\n") (does 1 (Rights (record { name = codes "abcdefghijklmnopqrstuvwxy"; holder = 1; holders = 1 })) ∷ [])
unfolding script_read words_of number_in delta_in object_named bounded_in form_among said_word row_of row_in_text row_in may_stand read_more
the_longest_name = refl

a_read_of_a_cell : Reads (codes "c1 read c.bc_x_1_1\nc1 inc c.bcx 5\n") (does 1 (Read (counter_of (codes "bc_x_1_1"))) ∷ does 1 (Change (counter_of (codes "bcx")) (Inc (pos 5))) ∷ [])
unfolding script_read words_of number_in delta_in object_named bounded_in form_among said_word row_of row_in_text row_in may_stand read_more
a_read_of_a_cell = refl

-- an object that the tap of a centre shows
abbrev tap_of : ℕ → List ℕ → Tapped
tap_of centre name = record { centre = centre; object = counter_of name }

steps_on_taps : script_read (codes "centres 2 k 1\nclients 1\ntap 1 c.a\ntap 2 c.a\nrounds 5\ntap 1 c.b\nfeed 2\nc1 tap 1 c.b\n") ≡ Ok (record (plain_script (section_of (Operator (Feed 2)) ∷ does 1 (Look 1 (counter_of (codes "b"))) ∷ [])) { rounds = 5; taps = tap_of 1 (codes "a") ∷ tap_of 2 (codes "a") ∷ tap_of 1 (codes "b") ∷ [] })
unfolding script_read words_of number_in delta_in object_named form_among said_word row_of row_in_text row_in may_stand read_more
steps_on_taps = refl

steps_on_taps_in_a_phase : script_read (codes "centres 2 k 1\nclients 1\ntap 1 c.a\nphase\nfeed 1\nc1 tap 1 c.a\nend\n") ≡ Ok (record (plain_script (phase_of (Operator (Feed 1) ∷ Client 1 (Look 1 (counter_of (codes "a"))) ∷ []) ∷ [])) { taps = tap_of 1 (codes "a") ∷ [] })
unfolding script_read words_of number_in delta_in object_named form_among said_word row_of row_in_text row_in may_stand read_more
steps_on_taps_in_a_phase = refl
