-- Texts that read well and break a rule: the rule, their tables, what is written of them. Written by texts.py.
use Rattle.std.specs.Prelude.{◌≡◌, refl, List, [], ◌∷◌, ◌++◌, ℕ}
use Rattle.reading.specs.Tags.{tags_of}
use Rattle.reading.specs.Content.{content_of, slots_of}
use Rattle.reading.specs.Layout.{numbers_of, names_of, read_of, faulty, refused, tables}
use Rattle.reading.specs.Print.{print}
use Rattle.texts.specs.Opened.{everything}

-- <scxml><final id='f'><state id='s'/></final></scxml>
abbrev text_state_in_final : List ℕ
text_state_in_final =
    60 ∷ 115 ∷ 99 ∷ 120 ∷ 109 ∷ 108 ∷ 62 ∷ 60 ∷ 102 ∷ 105 ∷ 110 ∷ 97 ∷ 108 ∷ 32 ∷ 105 ∷ 100 ∷ 61 ∷ 39 ∷ 102 ∷ 39 ∷ 62 ∷ 60 ∷ 115 ∷ 116 ∷ 97 ∷ 116 ∷
    101 ∷ 32 ∷ 105 ∷ 100 ∷ 61 ∷ 39 ∷ 115 ∷ 39 ∷ 47 ∷ 62 ∷ 60 ∷ 47 ∷ 102 ∷ 105 ∷ 110 ∷ 97 ∷ 108 ∷ 62 ∷ 60 ∷ 47 ∷ 115 ∷ 99 ∷ 120 ∷ 109 ∷ 108 ∷ 62 ∷ []

pub state_in_final :
    read_of text_state_in_final ≡ refused 3
unfolding everything
state_in_final = refl

pub numbers_state_in_final :
    numbers_of (slots_of (tags_of text_state_in_final)) (content_of (tags_of text_state_in_final)) ≡ 3 ∷ 0 ∷ 0 ∷ 0 ∷ 0 ∷ 2 ∷ 0 ∷ 65535 ∷ 65535 ∷ 0 ∷ 0
    ∷ 0 ∷ 0 ∷ 0 ∷ 0 ∷ 0 ∷ 0 ∷ 3 ∷ 0 ∷ 0 ∷ 0 ∷ 0 ∷ 0 ∷ 0 ∷ 0 ∷ 0 ∷ 0 ∷ 0 ∷ 1 ∷ 1 ∷ 1 ∷ 0 ∷ 0 ∷ 0 ∷ 0 ∷ 0 ∷ 0 ∷ 0 ∷ 0 ∷ []
unfolding everything
numbers_state_in_final = refl

-- <scxml><state id='s'/><onentry><log label='1'/></onentry></scxml>
abbrev text_onentry_of_root : List ℕ
text_onentry_of_root =
    60 ∷ 115 ∷ 99 ∷ 120 ∷ 109 ∷ 108 ∷ 62 ∷ 60 ∷ 115 ∷ 116 ∷ 97 ∷ 116 ∷ 101 ∷ 32 ∷ 105 ∷ 100 ∷ 61 ∷ 39 ∷ 115 ∷ 39 ∷ 47 ∷ 62 ∷ 60 ∷ 111 ∷ 110 ∷ 101 ∷
    110 ∷ 116 ∷ 114 ∷ 121 ∷ 62 ∷ 60 ∷ 108 ∷ 111 ∷ 103 ∷ 32 ∷ 108 ∷ 97 ∷ 98 ∷ 101 ∷ 108 ∷ 61 ∷ 39 ∷ 49 ∷ 39 ∷ 47 ∷ 62 ∷ 60 ∷ 47 ∷ 111 ∷ 110 ∷ 101 ∷ 110
    ∷ 116 ∷ 114 ∷ 121 ∷ 62 ∷ 60 ∷ 47 ∷ 115 ∷ 99 ∷ 120 ∷ 109 ∷ 108 ∷ 62 ∷ []

pub onentry_of_root :
    read_of text_onentry_of_root ≡ refused 4
unfolding everything
onentry_of_root = refl

pub numbers_onentry_of_root :
    numbers_of (slots_of (tags_of text_onentry_of_root)) (content_of (tags_of text_onentry_of_root)) ≡ 2 ∷ 0 ∷ 0 ∷ 0 ∷ 1 ∷ 1 ∷ 0 ∷ 65535 ∷ 65535 ∷ 0 ∷
    1 ∷ 1 ∷ 0 ∷ 0 ∷ 0 ∷ 1 ∷ 0 ∷ 1 ∷ 0 ∷ 0 ∷ 1 ∷ 0 ∷ 1 ∷ 0 ∷ 0 ∷ 0 ∷ 1 ∷ 0 ∷ 1 ∷ 1 ∷ 0 ∷ 0 ∷ []
unfolding everything
numbers_onentry_of_root = refl

-- <scxml><state id='s'/><transition target='s'/></scxml>
abbrev text_transition_of_root : List ℕ
text_transition_of_root =
    60 ∷ 115 ∷ 99 ∷ 120 ∷ 109 ∷ 108 ∷ 62 ∷ 60 ∷ 115 ∷ 116 ∷ 97 ∷ 116 ∷ 101 ∷ 32 ∷ 105 ∷ 100 ∷ 61 ∷ 39 ∷ 115 ∷ 39 ∷ 47 ∷ 62 ∷ 60 ∷ 116 ∷ 114 ∷ 97 ∷ 110
    ∷ 115 ∷ 105 ∷ 116 ∷ 105 ∷ 111 ∷ 110 ∷ 32 ∷ 116 ∷ 97 ∷ 114 ∷ 103 ∷ 101 ∷ 116 ∷ 61 ∷ 39 ∷ 115 ∷ 39 ∷ 47 ∷ 62 ∷ 60 ∷ 47 ∷ 115 ∷ 99 ∷ 120 ∷ 109 ∷ 108
    ∷ 62 ∷ []

pub transition_of_root :
    read_of text_transition_of_root ≡ refused 5
unfolding everything
transition_of_root = refl

pub numbers_transition_of_root :
    numbers_of (slots_of (tags_of text_transition_of_root)) (content_of (tags_of text_transition_of_root)) ≡ 2 ∷ 1 ∷ 1 ∷ 0 ∷ 0 ∷ 1 ∷ 0 ∷ 65535 ∷ 65535
    ∷ 0 ∷ 0 ∷ 0 ∷ 0 ∷ 0 ∷ 0 ∷ 0 ∷ 0 ∷ 1 ∷ 0 ∷ 0 ∷ 0 ∷ 0 ∷ 0 ∷ 0 ∷ 0 ∷ 0 ∷ 0 ∷ 0 ∷ 0 ∷ 0 ∷ 0 ∷ 65535 ∷ 0 ∷ 0 ∷ 1 ∷ 0 ∷ 0 ∷ 1 ∷ []
unfolding everything
numbers_transition_of_root = refl

-- <scxml><state id='a'><history id='h'><transition event='e' target='b'/></history><state id='b'/></state></scxml>
abbrev text_history_with_event : List ℕ
text_history_with_event =
    60 ∷ 115 ∷ 99 ∷ 120 ∷ 109 ∷ 108 ∷ 62 ∷ 60 ∷ 115 ∷ 116 ∷ 97 ∷ 116 ∷ 101 ∷ 32 ∷ 105 ∷ 100 ∷ 61 ∷ 39 ∷ 97 ∷ 39 ∷ 62 ∷ 60 ∷ 104 ∷ 105 ∷ 115 ∷ 116 ∷
    111 ∷ 114 ∷ 121 ∷ 32 ∷ 105 ∷ 100 ∷ 61 ∷ 39 ∷ 104 ∷ 39 ∷ 62 ∷ 60 ∷ 116 ∷ 114 ∷ 97 ∷ 110 ∷ 115 ∷ 105 ∷ 116 ∷ 105 ∷ 111 ∷ 110 ∷ 32 ∷ 101 ∷ 118 ∷ 101
    ∷ 110 ∷ 116 ∷ 61 ∷ 39 ∷ 101 ∷ 39 ∷ 32 ∷ 116 ∷ 97 ∷ 114 ∷ 103 ∷ 101 ∷ 116 ∷ 61 ∷ 39 ∷ 98 ∷ 39 ∷ 47 ∷ 62 ∷ 60 ∷ 47 ∷ 104 ∷ 105 ∷ 115 ∷ 116 ∷ 111 ∷
    114 ∷ 121 ∷ 62 ∷ 60 ∷ 115 ∷ 116 ∷ 97 ∷ 116 ∷ 101 ∷ 32 ∷ 105 ∷ 100 ∷ 61 ∷ 39 ∷ 98 ∷ 39 ∷ 47 ∷ 62 ∷ 60 ∷ 47 ∷ 115 ∷ 116 ∷ 97 ∷ 116 ∷ 101 ∷ 62 ∷ 60 ∷
    47 ∷ 115 ∷ 99 ∷ 120 ∷ 109 ∷ 108 ∷ 62 ∷ []

pub history_with_event :
    read_of text_history_with_event ≡ refused 4
unfolding everything
history_with_event = refl

pub numbers_history_with_event :
    numbers_of (slots_of (tags_of text_history_with_event)) (content_of (tags_of text_history_with_event)) ≡ 4 ∷ 1 ∷ 1 ∷ 1 ∷ 0 ∷ 4 ∷ 0 ∷ 65535 ∷ 65535
    ∷ 0 ∷ 0 ∷ 0 ∷ 0 ∷ 0 ∷ 0 ∷ 0 ∷ 0 ∷ 1 ∷ 0 ∷ 0 ∷ 0 ∷ 0 ∷ 0 ∷ 0 ∷ 0 ∷ 0 ∷ 0 ∷ 0 ∷ 4 ∷ 1 ∷ 1 ∷ 0 ∷ 0 ∷ 0 ∷ 0 ∷ 0 ∷ 0 ∷ 0 ∷ 0 ∷ 1 ∷ 1 ∷ 3 ∷ 0 ∷ 0 ∷ 0 ∷
    0 ∷ 0 ∷ 0 ∷ 0 ∷ 0 ∷ 2 ∷ 0 ∷ 1 ∷ 65535 ∷ 0 ∷ 0 ∷ 1 ∷ 0 ∷ 0 ∷ 3 ∷ 2 ∷ []
unfolding everything
numbers_history_with_event = refl

-- <scxml><state id='a'><history id='h'><transition target='b'/><transition target='b'/></history><state id='b'/></state></scxml>
abbrev text_history_with_two : List ℕ
text_history_with_two =
    60 ∷ 115 ∷ 99 ∷ 120 ∷ 109 ∷ 108 ∷ 62 ∷ 60 ∷ 115 ∷ 116 ∷ 97 ∷ 116 ∷ 101 ∷ 32 ∷ 105 ∷ 100 ∷ 61 ∷ 39 ∷ 97 ∷ 39 ∷ 62 ∷ 60 ∷ 104 ∷ 105 ∷ 115 ∷ 116 ∷
    111 ∷ 114 ∷ 121 ∷ 32 ∷ 105 ∷ 100 ∷ 61 ∷ 39 ∷ 104 ∷ 39 ∷ 62 ∷ 60 ∷ 116 ∷ 114 ∷ 97 ∷ 110 ∷ 115 ∷ 105 ∷ 116 ∷ 105 ∷ 111 ∷ 110 ∷ 32 ∷ 116 ∷ 97 ∷ 114 ∷
    103 ∷ 101 ∷ 116 ∷ 61 ∷ 39 ∷ 98 ∷ 39 ∷ 47 ∷ 62 ∷ 60 ∷ 116 ∷ 114 ∷ 97 ∷ 110 ∷ 115 ∷ 105 ∷ 116 ∷ 105 ∷ 111 ∷ 110 ∷ 32 ∷ 116 ∷ 97 ∷ 114 ∷ 103 ∷ 101 ∷
    116 ∷ 61 ∷ 39 ∷ 98 ∷ 39 ∷ 47 ∷ 62 ∷ 60 ∷ 47 ∷ 104 ∷ 105 ∷ 115 ∷ 116 ∷ 111 ∷ 114 ∷ 121 ∷ 62 ∷ 60 ∷ 115 ∷ 116 ∷ 97 ∷ 116 ∷ 101 ∷ 32 ∷ 105 ∷ 100 ∷ 61
    ∷ 39 ∷ 98 ∷ 39 ∷ 47 ∷ 62 ∷ 60 ∷ 47 ∷ 115 ∷ 116 ∷ 97 ∷ 116 ∷ 101 ∷ 62 ∷ 60 ∷ 47 ∷ 115 ∷ 99 ∷ 120 ∷ 109 ∷ 108 ∷ 62 ∷ []

pub history_with_two :
    read_of text_history_with_two ≡ refused 5
unfolding everything
history_with_two = refl

pub numbers_history_with_two :
    numbers_of (slots_of (tags_of text_history_with_two)) (content_of (tags_of text_history_with_two)) ≡ 4 ∷ 1 ∷ 2 ∷ 0 ∷ 0 ∷ 3 ∷ 0 ∷ 65535 ∷ 65535 ∷ 0
    ∷ 0 ∷ 0 ∷ 0 ∷ 0 ∷ 0 ∷ 0 ∷ 0 ∷ 1 ∷ 0 ∷ 0 ∷ 0 ∷ 0 ∷ 0 ∷ 0 ∷ 0 ∷ 0 ∷ 0 ∷ 0 ∷ 4 ∷ 1 ∷ 1 ∷ 0 ∷ 0 ∷ 0 ∷ 0 ∷ 0 ∷ 1 ∷ 0 ∷ 0 ∷ 1 ∷ 1 ∷ 2 ∷ 0 ∷ 0 ∷ 0 ∷ 0 ∷
    1 ∷ 0 ∷ 0 ∷ 0 ∷ 2 ∷ 0 ∷ 0 ∷ 65535 ∷ 0 ∷ 1 ∷ 1 ∷ 0 ∷ 0 ∷ 3 ∷ 3 ∷ []
unfolding everything
numbers_history_with_two = refl

-- <scxml><state id='1'/></scxml>
abbrev text_id_of_a_digit : List ℕ
text_id_of_a_digit =
    60 ∷ 115 ∷ 99 ∷ 120 ∷ 109 ∷ 108 ∷ 62 ∷ 60 ∷ 115 ∷ 116 ∷ 97 ∷ 116 ∷ 101 ∷ 32 ∷ 105 ∷ 100 ∷ 61 ∷ 39 ∷ 49 ∷ 39 ∷ 47 ∷ 62 ∷ 60 ∷ 47 ∷ 115 ∷ 99 ∷ 120 ∷
    109 ∷ 108 ∷ 62 ∷ []

pub id_of_a_digit :
    read_of text_id_of_a_digit ≡ refused 2
unfolding everything
id_of_a_digit = refl

pub numbers_id_of_a_digit :
    numbers_of (slots_of (tags_of text_id_of_a_digit)) (content_of (tags_of text_id_of_a_digit)) ≡ 2 ∷ 0 ∷ 0 ∷ 0 ∷ 0 ∷ 1 ∷ 0 ∷ 65535 ∷ 65535 ∷ 0 ∷ 0 ∷
    0 ∷ 0 ∷ 0 ∷ 0 ∷ 0 ∷ 0 ∷ 1 ∷ 0 ∷ 0 ∷ 0 ∷ 0 ∷ 0 ∷ 0 ∷ 0 ∷ 0 ∷ 0 ∷ 0 ∷ []
unfolding everything
numbers_id_of_a_digit = refl

-- <scxml><state id='aaaaaaaaaaaaaaaaaaaaaaaaaaaaaaaaaaaaaaaaaaaaaaaaaaaaaaaaaaaaaaa'/></scxml>
abbrev text_id_of_63 : List ℕ
text_id_of_63 =
    60 ∷ 115 ∷ 99 ∷ 120 ∷ 109 ∷ 108 ∷ 62 ∷ 60 ∷ 115 ∷ 116 ∷ 97 ∷ 116 ∷ 101 ∷ 32 ∷ 105 ∷ 100 ∷ 61 ∷ 39 ∷ 97 ∷ 97 ∷ 97 ∷ 97 ∷ 97 ∷ 97 ∷ 97 ∷ 97 ∷ 97 ∷
    97 ∷ 97 ∷ 97 ∷ 97 ∷ 97 ∷ 97 ∷ 97 ∷ 97 ∷ 97 ∷ 97 ∷ 97 ∷ 97 ∷ 97 ∷ 97 ∷ 97 ∷ 97 ∷ 97 ∷ 97 ∷ 97 ∷ 97 ∷ 97 ∷ 97 ∷ 97 ∷ 97 ∷ 97 ∷ 97 ∷ 97 ∷ 97 ∷ 97 ∷
    97 ∷ 97 ∷ 97 ∷ 97 ∷ 97 ∷ 97 ∷ 97 ∷ 97 ∷ 97 ∷ 97 ∷ 97 ∷ 97 ∷ 97 ∷ 97 ∷ 97 ∷ 97 ∷ 97 ∷ 97 ∷ 97 ∷ 97 ∷ 97 ∷ 97 ∷ 97 ∷ 97 ∷ 97 ∷ 39 ∷ 47 ∷ 62 ∷ 60 ∷
    47 ∷ 115 ∷ 99 ∷ 120 ∷ 109 ∷ 108 ∷ 62 ∷ []

pub id_of_63 :
    read_of text_id_of_63 ≡ refused 2
unfolding everything
id_of_63 = refl

pub numbers_id_of_63 :
    numbers_of (slots_of (tags_of text_id_of_63)) (content_of (tags_of text_id_of_63)) ≡ 2 ∷ 0 ∷ 0 ∷ 0 ∷ 0 ∷ 1 ∷ 0 ∷ 65535 ∷ 65535 ∷ 0 ∷ 0 ∷ 0 ∷ 0 ∷ 0
    ∷ 0 ∷ 0 ∷ 0 ∷ 1 ∷ 0 ∷ 0 ∷ 0 ∷ 0 ∷ 0 ∷ 0 ∷ 0 ∷ 0 ∷ 0 ∷ 0 ∷ []
unfolding everything
numbers_id_of_63 = refl

-- <scxml><state id='a'/><state id='a'/></scxml>
abbrev text_doubled_id : List ℕ
text_doubled_id =
    60 ∷ 115 ∷ 99 ∷ 120 ∷ 109 ∷ 108 ∷ 62 ∷ 60 ∷ 115 ∷ 116 ∷ 97 ∷ 116 ∷ 101 ∷ 32 ∷ 105 ∷ 100 ∷ 61 ∷ 39 ∷ 97 ∷ 39 ∷ 47 ∷ 62 ∷ 60 ∷ 115 ∷ 116 ∷ 97 ∷ 116
    ∷ 101 ∷ 32 ∷ 105 ∷ 100 ∷ 61 ∷ 39 ∷ 97 ∷ 39 ∷ 47 ∷ 62 ∷ 60 ∷ 47 ∷ 115 ∷ 99 ∷ 120 ∷ 109 ∷ 108 ∷ 62 ∷ []

pub doubled_id :
    read_of text_doubled_id ≡ refused 2
unfolding everything
doubled_id = refl

pub numbers_doubled_id :
    numbers_of (slots_of (tags_of text_doubled_id)) (content_of (tags_of text_doubled_id)) ≡ 3 ∷ 0 ∷ 0 ∷ 0 ∷ 0 ∷ 1 ∷ 0 ∷ 65535 ∷ 65535 ∷ 0 ∷ 0 ∷ 0 ∷ 0
    ∷ 0 ∷ 0 ∷ 0 ∷ 0 ∷ 1 ∷ 0 ∷ 0 ∷ 0 ∷ 0 ∷ 0 ∷ 0 ∷ 0 ∷ 0 ∷ 0 ∷ 0 ∷ 1 ∷ 0 ∷ 0 ∷ 0 ∷ 0 ∷ 0 ∷ 0 ∷ 0 ∷ 0 ∷ 0 ∷ 0 ∷ []
unfolding everything
numbers_doubled_id = refl

-- <scxml><state id='a'><onentry><log label='1'/><log label='1'/><log label='1'/><log label='1'/><log label='1'/><log label='1'/><log label='1'/><log label='1'/><log label='1'/><log label='1'/><log label='1'/><log label='1'/><log label='1'/><log label='1'/><log label='1'/><log label='1'/><log label='1'/></onentry><onentry><log label='1'/><log label='1'/><log label='1'/><log label='1'/><log label='1'/><log label='1'/><log label='1'/><log label='1'/><log label='1'/><log label='1'/><log label='1'/><log label='1'/><log label='1'/><log label='1'/><log label='1'/><log label='1'/></onentry></state></scxml>
abbrev text_many_actions : List ℕ
text_many_actions =
    60 ∷ 115 ∷ 99 ∷ 120 ∷ 109 ∷ 108 ∷ 62 ∷ 60 ∷ 115 ∷ 116 ∷ 97 ∷ 116 ∷ 101 ∷ 32 ∷ 105 ∷ 100 ∷ 61 ∷ 39 ∷ 97 ∷ 39 ∷ 62 ∷ 60 ∷ 111 ∷ 110 ∷ 101 ∷ 110 ∷
    116 ∷ 114 ∷ 121 ∷ 62 ∷ 60 ∷ 108 ∷ 111 ∷ 103 ∷ 32 ∷ 108 ∷ 97 ∷ 98 ∷ 101 ∷ 108 ∷ 61 ∷ 39 ∷ 49 ∷ 39 ∷ 47 ∷ 62 ∷ 60 ∷ 108 ∷ 111 ∷ 103 ∷ 32 ∷ 108 ∷ 97
    ∷ 98 ∷ 101 ∷ 108 ∷ 61 ∷ 39 ∷ 49 ∷ 39 ∷ 47 ∷ 62 ∷ 60 ∷ 108 ∷ 111 ∷ 103 ∷ 32 ∷ 108 ∷ 97 ∷ 98 ∷ 101 ∷ 108 ∷ 61 ∷ 39 ∷ 49 ∷ 39 ∷ 47 ∷ 62 ∷ 60 ∷ 108 ∷
    111 ∷ 103 ∷ 32 ∷ 108 ∷ 97 ∷ 98 ∷ 101 ∷ 108 ∷ 61 ∷ 39 ∷ 49 ∷ 39 ∷ 47 ∷ 62 ∷ 60 ∷ 108 ∷ 111 ∷ 103 ∷ 32 ∷ 108 ∷ 97 ∷ 98 ∷ 101 ∷ 108 ∷ 61 ∷ 39 ∷ 49 ∷
    39 ∷ 47 ∷ 62 ∷ 60 ∷ 108 ∷ 111 ∷ 103 ∷ 32 ∷ 108 ∷ 97 ∷ 98 ∷ 101 ∷ 108 ∷ 61 ∷ 39 ∷ 49 ∷ 39 ∷ 47 ∷ 62 ∷ 60 ∷ 108 ∷ 111 ∷ 103 ∷ 32 ∷ 108 ∷ 97 ∷ 98 ∷
    101 ∷ 108 ∷ 61 ∷ 39 ∷ 49 ∷ 39 ∷ 47 ∷ 62 ∷ 60 ∷ 108 ∷ 111 ∷ 103 ∷ 32 ∷ 108 ∷ 97 ∷ 98 ∷ 101 ∷ 108 ∷ 61 ∷ 39 ∷ 49 ∷ 39 ∷ 47 ∷ 62 ∷ 60 ∷ 108 ∷ 111 ∷
    103 ∷ 32 ∷ 108 ∷ 97 ∷ 98 ∷ 101 ∷ 108 ∷ 61 ∷ 39 ∷ 49 ∷ 39 ∷ 47 ∷ 62 ∷ 60 ∷ 108 ∷ 111 ∷ 103 ∷ 32 ∷ 108 ∷ 97 ∷ 98 ∷ 101 ∷ 108 ∷ 61 ∷ 39 ∷ 49 ∷ 39 ∷
    47 ∷ 62 ∷ 60 ∷ 108 ∷ 111 ∷ 103 ∷ 32 ∷ 108 ∷ 97 ∷ 98 ∷ 101 ∷ 108 ∷ 61 ∷ 39 ∷ 49 ∷ 39 ∷ 47 ∷ 62 ∷ 60 ∷ 108 ∷ 111 ∷ 103 ∷ 32 ∷ 108 ∷ 97 ∷ 98 ∷ 101 ∷
    108 ∷ 61 ∷ 39 ∷ 49 ∷ 39 ∷ 47 ∷ 62 ∷ 60 ∷ 108 ∷ 111 ∷ 103 ∷ 32 ∷ 108 ∷ 97 ∷ 98 ∷ 101 ∷ 108 ∷ 61 ∷ 39 ∷ 49 ∷ 39 ∷ 47 ∷ 62 ∷ 60 ∷ 108 ∷ 111 ∷ 103 ∷
    32 ∷ 108 ∷ 97 ∷ 98 ∷ 101 ∷ 108 ∷ 61 ∷ 39 ∷ 49 ∷ 39 ∷ 47 ∷ 62 ∷ 60 ∷ 108 ∷ 111 ∷ 103 ∷ 32 ∷ 108 ∷ 97 ∷ 98 ∷ 101 ∷ 108 ∷ 61 ∷ 39 ∷ 49 ∷ 39 ∷ 47 ∷ 62
    ∷ 60 ∷ 108 ∷ 111 ∷ 103 ∷ 32 ∷ 108 ∷ 97 ∷ 98 ∷ 101 ∷ 108 ∷ 61 ∷ 39 ∷ 49 ∷ 39 ∷ 47 ∷ 62 ∷ 60 ∷ 108 ∷ 111 ∷ 103 ∷ 32 ∷ 108 ∷ 97 ∷ 98 ∷ 101 ∷ 108 ∷ 61
    ∷ 39 ∷ 49 ∷ 39 ∷ 47 ∷ 62 ∷ 60 ∷ 47 ∷ 111 ∷ 110 ∷ 101 ∷ 110 ∷ 116 ∷ 114 ∷ 121 ∷ 62 ∷ 60 ∷ 111 ∷ 110 ∷ 101 ∷ 110 ∷ 116 ∷ 114 ∷ 121 ∷ 62 ∷ 60 ∷ 108 ∷
    111 ∷ 103 ∷ 32 ∷ 108 ∷ 97 ∷ 98 ∷ 101 ∷ 108 ∷ 61 ∷ 39 ∷ 49 ∷ 39 ∷ 47 ∷ 62 ∷ 60 ∷ 108 ∷ 111 ∷ 103 ∷ 32 ∷ 108 ∷ 97 ∷ 98 ∷ 101 ∷ 108 ∷ 61 ∷ 39 ∷ 49 ∷
    39 ∷ 47 ∷ 62 ∷ 60 ∷ 108 ∷ 111 ∷ 103 ∷ 32 ∷ 108 ∷ 97 ∷ 98 ∷ 101 ∷ 108 ∷ 61 ∷ 39 ∷ 49 ∷ 39 ∷ 47 ∷ 62 ∷ 60 ∷ 108 ∷ 111 ∷ 103 ∷ 32 ∷ 108 ∷ 97 ∷ 98 ∷
    101 ∷ 108 ∷ 61 ∷ 39 ∷ 49 ∷ 39 ∷ 47 ∷ 62 ∷ 60 ∷ 108 ∷ 111 ∷ 103 ∷ 32 ∷ 108 ∷ 97 ∷ 98 ∷ 101 ∷ 108 ∷ 61 ∷ 39 ∷ 49 ∷ 39 ∷ 47 ∷ 62 ∷ 60 ∷ 108 ∷ 111 ∷
    103 ∷ 32 ∷ 108 ∷ 97 ∷ 98 ∷ 101 ∷ 108 ∷ 61 ∷ 39 ∷ 49 ∷ 39 ∷ 47 ∷ 62 ∷ 60 ∷ 108 ∷ 111 ∷ 103 ∷ 32 ∷ 108 ∷ 97 ∷ 98 ∷ 101 ∷ 108 ∷ 61 ∷ 39 ∷ 49 ∷ 39 ∷
    47 ∷ 62 ∷ 60 ∷ 108 ∷ 111 ∷ 103 ∷ 32 ∷ 108 ∷ 97 ∷ 98 ∷ 101 ∷ 108 ∷ 61 ∷ 39 ∷ 49 ∷ 39 ∷ 47 ∷ 62 ∷ 60 ∷ 108 ∷ 111 ∷ 103 ∷ 32 ∷ 108 ∷ 97 ∷ 98 ∷ 101 ∷
    108 ∷ 61 ∷ 39 ∷ 49 ∷ 39 ∷ 47 ∷ 62 ∷ 60 ∷ 108 ∷ 111 ∷ 103 ∷ 32 ∷ 108 ∷ 97 ∷ 98 ∷ 101 ∷ 108 ∷ 61 ∷ 39 ∷ 49 ∷ 39 ∷ 47 ∷ 62 ∷ 60 ∷ 108 ∷ 111 ∷ 103 ∷
    32 ∷ 108 ∷ 97 ∷ 98 ∷ 101 ∷ 108 ∷ 61 ∷ 39 ∷ 49 ∷ 39 ∷ 47 ∷ 62 ∷ 60 ∷ 108 ∷ 111 ∷ 103 ∷ 32 ∷ 108 ∷ 97 ∷ 98 ∷ 101 ∷ 108 ∷ 61 ∷ 39 ∷ 49 ∷ 39 ∷ 47 ∷ 62
    ∷ 60 ∷ 108 ∷ 111 ∷ 103 ∷ 32 ∷ 108 ∷ 97 ∷ 98 ∷ 101 ∷ 108 ∷ 61 ∷ 39 ∷ 49 ∷ 39 ∷ 47 ∷ 62 ∷ 60 ∷ 108 ∷ 111 ∷ 103 ∷ 32 ∷ 108 ∷ 97 ∷ 98 ∷ 101 ∷ 108 ∷ 61
    ∷ 39 ∷ 49 ∷ 39 ∷ 47 ∷ 62 ∷ 60 ∷ 108 ∷ 111 ∷ 103 ∷ 32 ∷ 108 ∷ 97 ∷ 98 ∷ 101 ∷ 108 ∷ 61 ∷ 39 ∷ 49 ∷ 39 ∷ 47 ∷ 62 ∷ 60 ∷ 108 ∷ 111 ∷ 103 ∷ 32 ∷ 108 ∷
    97 ∷ 98 ∷ 101 ∷ 108 ∷ 61 ∷ 39 ∷ 49 ∷ 39 ∷ 47 ∷ 62 ∷ 60 ∷ 47 ∷ 111 ∷ 110 ∷ 101 ∷ 110 ∷ 116 ∷ 114 ∷ 121 ∷ 62 ∷ 60 ∷ 47 ∷ 115 ∷ 116 ∷ 97 ∷ 116 ∷ 101
    ∷ 62 ∷ 60 ∷ 47 ∷ 115 ∷ 99 ∷ 120 ∷ 109 ∷ 108 ∷ 62 ∷ []

pub many_actions :
    read_of text_many_actions ≡ refused 1
unfolding everything
many_actions = refl

pub numbers_many_actions :
    numbers_of (slots_of (tags_of text_many_actions)) (content_of (tags_of text_many_actions)) ≡ 2 ∷ 0 ∷ 0 ∷ 0 ∷ 33 ∷ 1 ∷ 0 ∷ 65535 ∷ 65535 ∷ 0 ∷ 0 ∷
    0 ∷ 0 ∷ 0 ∷ 0 ∷ 0 ∷ 0 ∷ 1 ∷ 0 ∷ 0 ∷ 0 ∷ 33 ∷ 33 ∷ 0 ∷ 0 ∷ 0 ∷ 33 ∷ 0 ∷ 1 ∷ 1 ∷ 0 ∷ 0 ∷ 1 ∷ 1 ∷ 0 ∷ 0 ∷ 1 ∷ 1 ∷ 0 ∷ 0 ∷ 1 ∷ 1 ∷ 0 ∷ 0 ∷ 1 ∷ 1 ∷ 0 ∷
    0 ∷ 1 ∷ 1 ∷ 0 ∷ 0 ∷ 1 ∷ 1 ∷ 0 ∷ 0 ∷ 1 ∷ 1 ∷ 0 ∷ 0 ∷ 1 ∷ 1 ∷ 0 ∷ 0 ∷ 1 ∷ 1 ∷ 0 ∷ 0 ∷ 1 ∷ 1 ∷ 0 ∷ 0 ∷ 1 ∷ 1 ∷ 0 ∷ 0 ∷ 1 ∷ 1 ∷ 0 ∷ 0 ∷ 1 ∷ 1 ∷ 0 ∷ 0
    ∷ 1 ∷ 1 ∷ 0 ∷ 0 ∷ 1 ∷ 1 ∷ 0 ∷ 0 ∷ 1 ∷ 1 ∷ 0 ∷ 0 ∷ 1 ∷ 1 ∷ 0 ∷ 0 ∷ 1 ∷ 1 ∷ 0 ∷ 0 ∷ 1 ∷ 1 ∷ 0 ∷ 0 ∷ 1 ∷ 1 ∷ 0 ∷ 0 ∷ 1 ∷ 1 ∷ 0 ∷ 0 ∷ 1 ∷ 1 ∷ 0 ∷ 0 ∷
    1 ∷ 1 ∷ 0 ∷ 0 ∷ 1 ∷ 1 ∷ 0 ∷ 0 ∷ 1 ∷ 1 ∷ 0 ∷ 0 ∷ 1 ∷ 1 ∷ 0 ∷ 0 ∷ 1 ∷ 1 ∷ 0 ∷ 0 ∷ 1 ∷ 1 ∷ 0 ∷ 0 ∷ 1 ∷ 1 ∷ 0 ∷ 0 ∷ 1 ∷ 1 ∷ 0 ∷ 0 ∷ 1 ∷ 1 ∷ 0 ∷ 0 ∷ 1
    ∷ 1 ∷ 0 ∷ 0 ∷ []
unfolding everything
numbers_many_actions = refl

-- <scxml><state id='a'><transition event='a b c d e'/></state></scxml>
abbrev text_five_descriptors : List ℕ
text_five_descriptors =
    60 ∷ 115 ∷ 99 ∷ 120 ∷ 109 ∷ 108 ∷ 62 ∷ 60 ∷ 115 ∷ 116 ∷ 97 ∷ 116 ∷ 101 ∷ 32 ∷ 105 ∷ 100 ∷ 61 ∷ 39 ∷ 97 ∷ 39 ∷ 62 ∷ 60 ∷ 116 ∷ 114 ∷ 97 ∷ 110 ∷ 115
    ∷ 105 ∷ 116 ∷ 105 ∷ 111 ∷ 110 ∷ 32 ∷ 101 ∷ 118 ∷ 101 ∷ 110 ∷ 116 ∷ 61 ∷ 39 ∷ 97 ∷ 32 ∷ 98 ∷ 32 ∷ 99 ∷ 32 ∷ 100 ∷ 32 ∷ 101 ∷ 39 ∷ 47 ∷ 62 ∷ 60 ∷ 47
    ∷ 115 ∷ 116 ∷ 97 ∷ 116 ∷ 101 ∷ 62 ∷ 60 ∷ 47 ∷ 115 ∷ 99 ∷ 120 ∷ 109 ∷ 108 ∷ 62 ∷ []

pub five_descriptors :
    read_of text_five_descriptors ≡ refused 1
unfolding everything
five_descriptors = refl

pub numbers_five_descriptors :
    numbers_of (slots_of (tags_of text_five_descriptors)) (content_of (tags_of text_five_descriptors)) ≡ 2 ∷ 1 ∷ 0 ∷ 5 ∷ 0 ∷ 5 ∷ 0 ∷ 65535 ∷ 65535 ∷ 0
    ∷ 0 ∷ 0 ∷ 0 ∷ 0 ∷ 0 ∷ 0 ∷ 0 ∷ 1 ∷ 0 ∷ 0 ∷ 0 ∷ 0 ∷ 0 ∷ 0 ∷ 0 ∷ 0 ∷ 0 ∷ 0 ∷ 1 ∷ 0 ∷ 5 ∷ 65535 ∷ 0 ∷ 0 ∷ 0 ∷ 0 ∷ 0 ∷ 0 ∷ 1 ∷ 2 ∷ 3 ∷ 4 ∷ []
unfolding everything
numbers_five_descriptors = refl

-- <scxml><state id='s'/><state id='t'><onentry><else/></onentry></state></scxml>
abbrev text_stray_else : List ℕ
text_stray_else =
    60 ∷ 115 ∷ 99 ∷ 120 ∷ 109 ∷ 108 ∷ 62 ∷ 60 ∷ 115 ∷ 116 ∷ 97 ∷ 116 ∷ 101 ∷ 32 ∷ 105 ∷ 100 ∷ 61 ∷ 39 ∷ 115 ∷ 39 ∷ 47 ∷ 62 ∷ 60 ∷ 115 ∷ 116 ∷ 97 ∷ 116
    ∷ 101 ∷ 32 ∷ 105 ∷ 100 ∷ 61 ∷ 39 ∷ 116 ∷ 39 ∷ 62 ∷ 60 ∷ 111 ∷ 110 ∷ 101 ∷ 110 ∷ 116 ∷ 114 ∷ 121 ∷ 62 ∷ 60 ∷ 101 ∷ 108 ∷ 115 ∷ 101 ∷ 47 ∷ 62 ∷ 60 ∷
    47 ∷ 111 ∷ 110 ∷ 101 ∷ 110 ∷ 116 ∷ 114 ∷ 121 ∷ 62 ∷ 60 ∷ 47 ∷ 115 ∷ 116 ∷ 97 ∷ 116 ∷ 101 ∷ 62 ∷ 60 ∷ 47 ∷ 115 ∷ 99 ∷ 120 ∷ 109 ∷ 108 ∷ 62 ∷ []

pub stray_else :
    read_of text_stray_else ≡ refused 5
unfolding everything
stray_else = refl

pub numbers_stray_else :
    numbers_of (slots_of (tags_of text_stray_else)) (content_of (tags_of text_stray_else)) ≡ 3 ∷ 0 ∷ 0 ∷ 0 ∷ 1 ∷ 2 ∷ 0 ∷ 65535 ∷ 65535 ∷ 0 ∷ 0 ∷ 0 ∷ 0
    ∷ 0 ∷ 0 ∷ 0 ∷ 0 ∷ 1 ∷ 0 ∷ 0 ∷ 0 ∷ 0 ∷ 0 ∷ 0 ∷ 0 ∷ 0 ∷ 0 ∷ 0 ∷ 1 ∷ 0 ∷ 1 ∷ 0 ∷ 1 ∷ 1 ∷ 0 ∷ 0 ∷ 0 ∷ 1 ∷ 0 ∷ 4 ∷ 0 ∷ 0 ∷ 0 ∷ []
unfolding everything
numbers_stray_else = refl

abbrev written_stray_else : List ℕ
written_stray_else =
    60 ∷ 115 ∷ 99 ∷ 120 ∷ 109 ∷ 108 ∷ 32 ∷ 120 ∷ 109 ∷ 108 ∷ 110 ∷ 115 ∷ 61 ∷ 34 ∷ 104 ∷ 116 ∷ 116 ∷ 112 ∷ 58 ∷ 47 ∷ 47 ∷ 119 ∷ 119 ∷ 119 ∷ 46 ∷ 119 ∷
    51 ∷ 46 ∷ 111 ∷ 114 ∷ 103 ∷ 47 ∷ 50 ∷ 48 ∷ 48 ∷ 53 ∷ 47 ∷ 48 ∷ 55 ∷ 47 ∷ 115 ∷ 99 ∷ 120 ∷ 109 ∷ 108 ∷ 34 ∷ 32 ∷ 118 ∷ 101 ∷ 114 ∷ 115 ∷ 105 ∷ 111
    ∷ 110 ∷ 61 ∷ 34 ∷ 49 ∷ 46 ∷ 48 ∷ 34 ∷ 62 ∷ 60 ∷ 115 ∷ 116 ∷ 97 ∷ 116 ∷ 101 ∷ 32 ∷ 105 ∷ 100 ∷ 61 ∷ 34 ∷ 115 ∷ 34 ∷ 47 ∷ 62 ∷ 60 ∷ 115 ∷ 116 ∷ 97 ∷
    116 ∷ 101 ∷ 32 ∷ 105 ∷ 100 ∷ 61 ∷ 34 ∷ 116 ∷ 34 ∷ 62 ∷ 60 ∷ 111 ∷ 110 ∷ 101 ∷ 110 ∷ 116 ∷ 114 ∷ 121 ∷ 62 ∷ 60 ∷ 101 ∷ 108 ∷ 115 ∷ 101 ∷ 47 ∷ 62 ∷
    60 ∷ 47 ∷ 111 ∷ 110 ∷ 101 ∷ 110 ∷ 116 ∷ 114 ∷ 121 ∷ 62 ∷ 60 ∷ 47 ∷ 115 ∷ 116 ∷ 97 ∷ 116 ∷ 101 ∷ 62 ∷ 60 ∷ 47 ∷ 115 ∷ 99 ∷ 120 ∷ 109 ∷ 108 ∷ 62 ∷
    []

pub print_stray_else :
    print (content_of (tags_of text_stray_else)) ≡ written_stray_else
unfolding everything
print_stray_else = refl

pub again_stray_else :
    content_of (tags_of written_stray_else) ≡ content_of (tags_of text_stray_else)
unfolding everything
again_stray_else = refl

-- <scxml><state id='s'><transition cond="In('s')"/></state></scxml>
abbrev text_eventless_without_target : List ℕ
text_eventless_without_target =
    60 ∷ 115 ∷ 99 ∷ 120 ∷ 109 ∷ 108 ∷ 62 ∷ 60 ∷ 115 ∷ 116 ∷ 97 ∷ 116 ∷ 101 ∷ 32 ∷ 105 ∷ 100 ∷ 61 ∷ 39 ∷ 115 ∷ 39 ∷ 62 ∷ 60 ∷ 116 ∷ 114 ∷ 97 ∷ 110 ∷
    115 ∷ 105 ∷ 116 ∷ 105 ∷ 111 ∷ 110 ∷ 32 ∷ 99 ∷ 111 ∷ 110 ∷ 100 ∷ 61 ∷ 34 ∷ 73 ∷ 110 ∷ 40 ∷ 39 ∷ 115 ∷ 39 ∷ 41 ∷ 34 ∷ 47 ∷ 62 ∷ 60 ∷ 47 ∷ 115 ∷ 116
    ∷ 97 ∷ 116 ∷ 101 ∷ 62 ∷ 60 ∷ 47 ∷ 115 ∷ 99 ∷ 120 ∷ 109 ∷ 108 ∷ 62 ∷ []

pub eventless_without_target :
    read_of text_eventless_without_target ≡ refused 5
unfolding everything
eventless_without_target = refl

pub numbers_eventless_without_target :
    numbers_of (slots_of (tags_of text_eventless_without_target)) (content_of (tags_of text_eventless_without_target)) ≡ 2 ∷ 1 ∷ 0 ∷ 0 ∷ 0 ∷ 1 ∷ 0 ∷
    65535 ∷ 65535 ∷ 0 ∷ 0 ∷ 0 ∷ 0 ∷ 0 ∷ 0 ∷ 0 ∷ 0 ∷ 1 ∷ 0 ∷ 0 ∷ 0 ∷ 0 ∷ 0 ∷ 0 ∷ 0 ∷ 0 ∷ 0 ∷ 0 ∷ 1 ∷ 0 ∷ 0 ∷ 1 ∷ 0 ∷ 0 ∷ 0 ∷ 0 ∷ 0 ∷ []
unfolding everything
numbers_eventless_without_target = refl
