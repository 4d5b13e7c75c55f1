-- Texts that are refused with 12, each with the offset of its first fault. Written by texts.py.
use Rattle.std.specs.Prelude.{◌≡◌, refl, List, [], ◌∷◌, ◌++◌, ℕ}
use Rattle.reading.specs.Tags.{tags_of}
use Rattle.reading.specs.Content.{content_of, slots_of}
use Rattle.reading.specs.Layout.{numbers_of, names_of, read_of, faulty, refused, tables}
use Rattle.reading.specs.Print.{print}
use Rattle.texts.specs.Opened.{everything}

-- <scxml><state/><bad/></scxml>
pub grammar_first :
    read_of (60 ∷ 115 ∷ 99 ∷ 120 ∷ 109 ∷ 108 ∷ 62 ∷ 60 ∷ 115 ∷ 116 ∷ 97 ∷ 116 ∷ 101 ∷ 47 ∷ 62 ∷ 60 ∷ 98 ∷ 97 ∷ 100 ∷ 47 ∷ 62 ∷ 60 ∷ 47 ∷ 115 ∷ 99 ∷
    120 ∷ 109 ∷ 108 ∷ 62 ∷ []) ≡ faulty 16
unfolding everything
grammar_first = refl

-- <scxml><state id='a'><transition target='q'/></state><state/></scxml>
pub least_fault :
    read_of (60 ∷ 115 ∷ 99 ∷ 120 ∷ 109 ∷ 108 ∷ 62 ∷ 60 ∷ 115 ∷ 116 ∷ 97 ∷ 116 ∷ 101 ∷ 32 ∷ 105 ∷ 100 ∷ 61 ∷ 39 ∷ 97 ∷ 39 ∷ 62 ∷ 60 ∷ 116 ∷ 114 ∷ 97 ∷
    110 ∷ 115 ∷ 105 ∷ 116 ∷ 105 ∷ 111 ∷ 110 ∷ 32 ∷ 116 ∷ 97 ∷ 114 ∷ 103 ∷ 101 ∷ 116 ∷ 61 ∷ 39 ∷ 113 ∷ 39 ∷ 47 ∷ 62 ∷ 60 ∷ 47 ∷ 115 ∷ 116 ∷ 97 ∷ 116 ∷
    101 ∷ 62 ∷ 60 ∷ 115 ∷ 116 ∷ 97 ∷ 116 ∷ 101 ∷ 47 ∷ 62 ∷ 60 ∷ 47 ∷ 115 ∷ 99 ∷ 120 ∷ 109 ∷ 108 ∷ 62 ∷ []) ≡ faulty 41
unfolding everything
least_fault = refl

-- the empty text
pub empty :
    read_of ([]) ≡ faulty 0
unfolding everything
empty = refl

-- <scxml><state id='a'/>
pub unclosed :
    read_of (60 ∷ 115 ∷ 99 ∷ 120 ∷ 109 ∷ 108 ∷ 62 ∷ 60 ∷ 115 ∷ 116 ∷ 97 ∷ 116 ∷ 101 ∷ 32 ∷ 105 ∷ 100 ∷ 61 ∷ 39 ∷ 97 ∷ 39 ∷ 47 ∷ 62 ∷ []) ≡ faulty 22
unfolding everything
unclosed = refl

-- \xef<scxml/>
pub byte_order_mark :
    read_of (239 ∷ 60 ∷ 115 ∷ 99 ∷ 120 ∷ 109 ∷ 108 ∷ 47 ∷ 62 ∷ []) ≡ faulty 0
unfolding everything
byte_order_mark = refl

-- <scxml>\x00</scxml>
pub zero_byte :
    read_of (60 ∷ 115 ∷ 99 ∷ 120 ∷ 109 ∷ 108 ∷ 62 ∷ 0 ∷ 60 ∷ 47 ∷ 115 ∷ 99 ∷ 120 ∷ 109 ∷ 108 ∷ 62 ∷ []) ≡ faulty 7
unfolding everything
zero_byte = refl

-- <?xml version='1.0'?>
pub declaration :
    read_of (60 ∷ 63 ∷ 120 ∷ 109 ∷ 108 ∷ 32 ∷ 118 ∷ 101 ∷ 114 ∷ 115 ∷ 105 ∷ 111 ∷ 110 ∷ 61 ∷ 39 ∷ 49 ∷ 46 ∷ 48 ∷ 39 ∷ 63 ∷ 62 ∷ []) ≡ faulty 1
unfolding everything
declaration = refl

-- <!DOCTYPE x>
pub doctype :
    read_of (60 ∷ 33 ∷ 68 ∷ 79 ∷ 67 ∷ 84 ∷ 89 ∷ 80 ∷ 69 ∷ 32 ∷ 120 ∷ 62 ∷ []) ≡ faulty 2
unfolding everything
doctype = refl

-- <scxml><![CDATA[
pub cdata :
    read_of (60 ∷ 115 ∷ 99 ∷ 120 ∷ 109 ∷ 108 ∷ 62 ∷ 60 ∷ 33 ∷ 91 ∷ 67 ∷ 68 ∷ 65 ∷ 84 ∷ 65 ∷ 91 ∷ []) ≡ faulty 9
unfolding everything
cdata = refl

-- <scxml xmlns='&#39;'/>
pub character_reference :
    read_of (60 ∷ 115 ∷ 99 ∷ 120 ∷ 109 ∷ 108 ∷ 32 ∷ 120 ∷ 109 ∷ 108 ∷ 110 ∷ 115 ∷ 61 ∷ 39 ∷ 38 ∷ 35 ∷ 51 ∷ 57 ∷ 59 ∷ 39 ∷ 47 ∷ 62 ∷ []) ≡ faulty 15
unfolding everything
character_reference = refl

-- <!-- a -- b --><scxml/>
pub dashes_in_comment :
    read_of (60 ∷ 33 ∷ 45 ∷ 45 ∷ 32 ∷ 97 ∷ 32 ∷ 45 ∷ 45 ∷ 32 ∷ 98 ∷ 32 ∷ 45 ∷ 45 ∷ 62 ∷ 60 ∷ 115 ∷ 99 ∷ 120 ∷ 109 ∷ 108 ∷ 47 ∷ 62 ∷ []) ≡ faulty 9
unfolding everything
dashes_in_comment = refl

-- <scxml>x</scxml>
pub text_between_tags :
    read_of (60 ∷ 115 ∷ 99 ∷ 120 ∷ 109 ∷ 108 ∷ 62 ∷ 120 ∷ 60 ∷ 47 ∷ 115 ∷ 99 ∷ 120 ∷ 109 ∷ 108 ∷ 62 ∷ []) ≡ faulty 7
unfolding everything
text_between_tags = refl

-- <scxml><state id='&apos;'/></scxml>
pub entity_in_name :
    read_of (60 ∷ 115 ∷ 99 ∷ 120 ∷ 109 ∷ 108 ∷ 62 ∷ 60 ∷ 115 ∷ 116 ∷ 97 ∷ 116 ∷ 101 ∷ 32 ∷ 105 ∷ 100 ∷ 61 ∷ 39 ∷ 38 ∷ 97 ∷ 112 ∷ 111 ∷ 115 ∷ 59 ∷ 39 ∷
    47 ∷ 62 ∷ 60 ∷ 47 ∷ 115 ∷ 99 ∷ 120 ∷ 109 ∷ 108 ∷ 62 ∷ []) ≡ faulty 18
unfolding everything
entity_in_name = refl

-- <scxml version='&lx;'/>
pub other_entity :
    read_of (60 ∷ 115 ∷ 99 ∷ 120 ∷ 109 ∷ 108 ∷ 32 ∷ 118 ∷ 101 ∷ 114 ∷ 115 ∷ 105 ∷ 111 ∷ 110 ∷ 61 ∷ 39 ∷ 38 ∷ 108 ∷ 120 ∷ 59 ∷ 39 ∷ 47 ∷ 62 ∷ []) ≡
    faulty 18
unfolding everything
other_entity = refl

-- <scxml><send event='x'/></scxml>
pub send_in_row :
    read_of (60 ∷ 115 ∷ 99 ∷ 120 ∷ 109 ∷ 108 ∷ 62 ∷ 60 ∷ 115 ∷ 101 ∷ 110 ∷ 100 ∷ 32 ∷ 101 ∷ 118 ∷ 101 ∷ 110 ∷ 116 ∷ 61 ∷ 39 ∷ 120 ∷ 39 ∷ 47 ∷ 62 ∷ 60
    ∷ 47 ∷ 115 ∷ 99 ∷ 120 ∷ 109 ∷ 108 ∷ 62 ∷ []) ≡ faulty 9
unfolding everything
send_in_row = refl

-- <scxml><raise event='a'/></scxml>
pub raise_in_row :
    read_of (60 ∷ 115 ∷ 99 ∷ 120 ∷ 109 ∷ 108 ∷ 62 ∷ 60 ∷ 114 ∷ 97 ∷ 105 ∷ 115 ∷ 101 ∷ 32 ∷ 101 ∷ 118 ∷ 101 ∷ 110 ∷ 116 ∷ 61 ∷ 39 ∷ 97 ∷ 39 ∷ 47 ∷ 62 ∷
    60 ∷ 47 ∷ 115 ∷ 99 ∷ 120 ∷ 109 ∷ 108 ∷ 62 ∷ []) ≡ faulty 8
unfolding everything
raise_in_row = refl

-- <scxml><state id='a'><onentry><send id='k'/>
pub send_without_event :
    read_of (60 ∷ 115 ∷ 99 ∷ 120 ∷ 109 ∷ 108 ∷ 62 ∷ 60 ∷ 115 ∷ 116 ∷ 97 ∷ 116 ∷ 101 ∷ 32 ∷ 105 ∷ 100 ∷ 61 ∷ 39 ∷ 97 ∷ 39 ∷ 62 ∷ 60 ∷ 111 ∷ 110 ∷ 101 ∷
    110 ∷ 116 ∷ 114 ∷ 121 ∷ 62 ∷ 60 ∷ 115 ∷ 101 ∷ 110 ∷ 100 ∷ 32 ∷ 105 ∷ 100 ∷ 61 ∷ 39 ∷ 107 ∷ 39 ∷ 47 ∷ 62 ∷ []) ≡ faulty 42
unfolding everything
send_without_event = refl

-- <scxml><state id='a'><onentry><cancel/>
pub cancel_without_sendid :
    read_of (60 ∷ 115 ∷ 99 ∷ 120 ∷ 109 ∷ 108 ∷ 62 ∷ 60 ∷ 115 ∷ 116 ∷ 97 ∷ 116 ∷ 101 ∷ 32 ∷ 105 ∷ 100 ∷ 61 ∷ 39 ∷ 97 ∷ 39 ∷ 62 ∷ 60 ∷ 111 ∷ 110 ∷ 101 ∷
    110 ∷ 116 ∷ 114 ∷ 121 ∷ 62 ∷ 60 ∷ 99 ∷ 97 ∷ 110 ∷ 99 ∷ 101 ∷ 108 ∷ 47 ∷ 62 ∷ []) ≡ faulty 37
unfolding everything
cancel_without_sendid = refl

-- <scxml><state id='a'><onentry><send sendid='k'
pub sendid_of_a_send :
    read_of (60 ∷ 115 ∷ 99 ∷ 120 ∷ 109 ∷ 108 ∷ 62 ∷ 60 ∷ 115 ∷ 116 ∷ 97 ∷ 116 ∷ 101 ∷ 32 ∷ 105 ∷ 100 ∷ 61 ∷ 39 ∷ 97 ∷ 39 ∷ 62 ∷ 60 ∷ 111 ∷ 110 ∷ 101 ∷
    110 ∷ 116 ∷ 114 ∷ 121 ∷ 62 ∷ 60 ∷ 115 ∷ 101 ∷ 110 ∷ 100 ∷ 32 ∷ 115 ∷ 101 ∷ 110 ∷ 100 ∷ 105 ∷ 100 ∷ 61 ∷ 39 ∷ 107 ∷ 39 ∷ []) ≡ faulty 36
unfolding everything
sendid_of_a_send = refl

-- <scxml><state id='a'><onentry><send event='a.*'
pub descriptor_sent :
    read_of (60 ∷ 115 ∷ 99 ∷ 120 ∷ 109 ∷ 108 ∷ 62 ∷ 60 ∷ 115 ∷ 116 ∷ 97 ∷ 116 ∷ 101 ∷ 32 ∷ 105 ∷ 100 ∷ 61 ∷ 39 ∷ 97 ∷ 39 ∷ 62 ∷ 60 ∷ 111 ∷ 110 ∷ 101 ∷
    110 ∷ 116 ∷ 114 ∷ 121 ∷ 62 ∷ 60 ∷ 115 ∷ 101 ∷ 110 ∷ 100 ∷ 32 ∷ 101 ∷ 118 ∷ 101 ∷ 110 ∷ 116 ∷ 61 ∷ 39 ∷ 97 ∷ 46 ∷ 42 ∷ 39 ∷ []) ≡ faulty 45
unfolding everything
descriptor_sent = refl

-- <scxml><state id='a' initial='b'><initial>
pub initial_twice :
    read_of (60 ∷ 115 ∷ 99 ∷ 120 ∷ 109 ∷ 108 ∷ 62 ∷ 60 ∷ 115 ∷ 116 ∷ 97 ∷ 116 ∷ 101 ∷ 32 ∷ 105 ∷ 100 ∷ 61 ∷ 39 ∷ 97 ∷ 39 ∷ 32 ∷ 105 ∷ 110 ∷ 105 ∷ 116
    ∷ 105 ∷ 97 ∷ 108 ∷ 61 ∷ 39 ∷ 98 ∷ 39 ∷ 62 ∷ 60 ∷ 105 ∷ 110 ∷ 105 ∷ 116 ∷ 105 ∷ 97 ∷ 108 ∷ 62 ∷ []) ≡ faulty 34
unfolding everything
initial_twice = refl

-- <scxml><state id='a'><initial></
pub initial_without_transition :
    read_of (60 ∷ 115 ∷ 99 ∷ 120 ∷ 109 ∷ 108 ∷ 62 ∷ 60 ∷ 115 ∷ 116 ∷ 97 ∷ 116 ∷ 101 ∷ 32 ∷ 105 ∷ 100 ∷ 61 ∷ 39 ∷ 97 ∷ 39 ∷ 62 ∷ 60 ∷ 105 ∷ 110 ∷ 105 ∷
    116 ∷ 105 ∷ 97 ∷ 108 ∷ 62 ∷ 60 ∷ 47 ∷ []) ≡ faulty 31
unfolding everything
initial_without_transition = refl

-- <scxml><state id='a'><initial/>
pub initial_empty_tag :
    read_of (60 ∷ 115 ∷ 99 ∷ 120 ∷ 109 ∷ 108 ∷ 62 ∷ 60 ∷ 115 ∷ 116 ∷ 97 ∷ 116 ∷ 101 ∷ 32 ∷ 105 ∷ 100 ∷ 61 ∷ 39 ∷ 97 ∷ 39 ∷ 62 ∷ 60 ∷ 105 ∷ 110 ∷ 105 ∷
    116 ∷ 105 ∷ 97 ∷ 108 ∷ 47 ∷ 62 ∷ []) ≡ faulty 29
unfolding everything
initial_empty_tag = refl

-- <scxml><state id='a'><initial><transition event='e'
pub initial_with_event :
    read_of (60 ∷ 115 ∷ 99 ∷ 120 ∷ 109 ∷ 108 ∷ 62 ∷ 60 ∷ 115 ∷ 116 ∷ 97 ∷ 116 ∷ 101 ∷ 32 ∷ 105 ∷ 100 ∷ 61 ∷ 39 ∷ 97 ∷ 39 ∷ 62 ∷ 60 ∷ 105 ∷ 110 ∷ 105 ∷
    116 ∷ 105 ∷ 97 ∷ 108 ∷ 62 ∷ 60 ∷ 116 ∷ 114 ∷ 97 ∷ 110 ∷ 115 ∷ 105 ∷ 116 ∷ 105 ∷ 111 ∷ 110 ∷ 32 ∷ 101 ∷ 118 ∷ 101 ∷ 110 ∷ 116 ∷ 61 ∷ 39 ∷ 101 ∷ 39
    ∷ []) ≡ faulty 42
unfolding everything
initial_with_event = refl

-- <scxml><initial>
pub initial_of_root :
    read_of (60 ∷ 115 ∷ 99 ∷ 120 ∷ 109 ∷ 108 ∷ 62 ∷ 60 ∷ 105 ∷ 110 ∷ 105 ∷ 116 ∷ 105 ∷ 97 ∷ 108 ∷ 62 ∷ []) ≡ faulty 8
unfolding everything
initial_of_root = refl

-- <scxml><state id='a' id='b'/></scxml>
pub id_twice :
    read_of (60 ∷ 115 ∷ 99 ∷ 120 ∷ 109 ∷ 108 ∷ 62 ∷ 60 ∷ 115 ∷ 116 ∷ 97 ∷ 116 ∷ 101 ∷ 32 ∷ 105 ∷ 100 ∷ 61 ∷ 39 ∷ 97 ∷ 39 ∷ 32 ∷ 105 ∷ 100 ∷ 61 ∷ 39 ∷
    98 ∷ 39 ∷ 47 ∷ 62 ∷ 60 ∷ 47 ∷ 115 ∷ 99 ∷ 120 ∷ 109 ∷ 108 ∷ 62 ∷ []) ≡ faulty 22
unfolding everything
id_twice = refl

-- <scxml><state id='a'><onentry><raise/>
pub raise_without_event :
    read_of (60 ∷ 115 ∷ 99 ∷ 120 ∷ 109 ∷ 108 ∷ 62 ∷ 60 ∷ 115 ∷ 116 ∷ 97 ∷ 116 ∷ 101 ∷ 32 ∷ 105 ∷ 100 ∷ 61 ∷ 39 ∷ 97 ∷ 39 ∷ 62 ∷ 60 ∷ 111 ∷ 110 ∷ 101 ∷
    110 ∷ 116 ∷ 114 ∷ 121 ∷ 62 ∷ 60 ∷ 114 ∷ 97 ∷ 105 ∷ 115 ∷ 101 ∷ 47 ∷ 62 ∷ []) ≡ faulty 36
unfolding everything
raise_without_event = refl

-- <scxml name='x'/>
pub other_attribute :
    read_of (60 ∷ 115 ∷ 99 ∷ 120 ∷ 109 ∷ 108 ∷ 32 ∷ 110 ∷ 97 ∷ 109 ∷ 101 ∷ 61 ∷ 39 ∷ 120 ∷ 39 ∷ 47 ∷ 62 ∷ []) ≡ faulty 7
unfolding everything
other_attribute = refl

-- <scxml><state id='a'><transition target=''/></state></scxml>
pub empty_target :
    read_of (60 ∷ 115 ∷ 99 ∷ 120 ∷ 109 ∷ 108 ∷ 62 ∷ 60 ∷ 115 ∷ 116 ∷ 97 ∷ 116 ∷ 101 ∷ 32 ∷ 105 ∷ 100 ∷ 61 ∷ 39 ∷ 97 ∷ 39 ∷ 62 ∷ 60 ∷ 116 ∷ 114 ∷ 97 ∷
    110 ∷ 115 ∷ 105 ∷ 116 ∷ 105 ∷ 111 ∷ 110 ∷ 32 ∷ 116 ∷ 97 ∷ 114 ∷ 103 ∷ 101 ∷ 116 ∷ 61 ∷ 39 ∷ 39 ∷ 47 ∷ 62 ∷ 60 ∷ 47 ∷ 115 ∷ 116 ∷ 97 ∷ 116 ∷ 101 ∷
    62 ∷ 60 ∷ 47 ∷ 115 ∷ 99 ∷ 120 ∷ 109 ∷ 108 ∷ 62 ∷ []) ≡ faulty 41
unfolding everything
empty_target = refl

-- <scxml><state id='a..b'/></scxml>
pub empty_token :
    read_of (60 ∷ 115 ∷ 99 ∷ 120 ∷ 109 ∷ 108 ∷ 62 ∷ 60 ∷ 115 ∷ 116 ∷ 97 ∷ 116 ∷ 101 ∷ 32 ∷ 105 ∷ 100 ∷ 61 ∷ 39 ∷ 97 ∷ 46 ∷ 46 ∷ 98 ∷ 39 ∷ 47 ∷ 62 ∷ 60
    ∷ 47 ∷ 115 ∷ 99 ∷ 120 ∷ 109 ∷ 108 ∷ 62 ∷ []) ≡ faulty 20
unfolding everything
empty_token = refl

-- <scxml><state id='a'><transition event='a*'
pub star_behind_token :
    read_of (60 ∷ 115 ∷ 99 ∷ 120 ∷ 109 ∷ 108 ∷ 62 ∷ 60 ∷ 115 ∷ 116 ∷ 97 ∷ 116 ∷ 101 ∷ 32 ∷ 105 ∷ 100 ∷ 61 ∷ 39 ∷ 97 ∷ 39 ∷ 62 ∷ 60 ∷ 116 ∷ 114 ∷ 97 ∷
    110 ∷ 115 ∷ 105 ∷ 116 ∷ 105 ∷ 111 ∷ 110 ∷ 32 ∷ 101 ∷ 118 ∷ 101 ∷ 110 ∷ 116 ∷ 61 ∷ 39 ∷ 97 ∷ 42 ∷ 39 ∷ []) ≡ faulty 41
unfolding everything
star_behind_token = refl

-- <scxml><state id='a'><transition event='a.*.b'
pub star_in_the_middle :
    read_of (60 ∷ 115 ∷ 99 ∷ 120 ∷ 109 ∷ 108 ∷ 62 ∷ 60 ∷ 115 ∷ 116 ∷ 97 ∷ 116 ∷ 101 ∷ 32 ∷ 105 ∷ 100 ∷ 61 ∷ 39 ∷ 97 ∷ 39 ∷ 62 ∷ 60 ∷ 116 ∷ 114 ∷ 97 ∷
    110 ∷ 115 ∷ 105 ∷ 116 ∷ 105 ∷ 111 ∷ 110 ∷ 32 ∷ 101 ∷ 118 ∷ 101 ∷ 110 ∷ 116 ∷ 61 ∷ 39 ∷ 97 ∷ 46 ∷ 42 ∷ 46 ∷ 98 ∷ 39 ∷ []) ≡ faulty 43
unfolding everything
star_in_the_middle = refl

-- <scxml><state id='s'/><transition type='foo'/></scxml>
pub other_type :
    read_of (60 ∷ 115 ∷ 99 ∷ 120 ∷ 109 ∷ 108 ∷ 62 ∷ 60 ∷ 115 ∷ 116 ∷ 97 ∷ 116 ∷ 101 ∷ 32 ∷ 105 ∷ 100 ∷ 61 ∷ 39 ∷ 115 ∷ 39 ∷ 47 ∷ 62 ∷ 60 ∷ 116 ∷ 114 ∷
    97 ∷ 110 ∷ 115 ∷ 105 ∷ 116 ∷ 105 ∷ 111 ∷ 110 ∷ 32 ∷ 116 ∷ 121 ∷ 112 ∷ 101 ∷ 61 ∷ 39 ∷ 102 ∷ 111 ∷ 111 ∷ 39 ∷ 47 ∷ 62 ∷ 60 ∷ 47 ∷ 115 ∷ 99 ∷ 120 ∷
    109 ∷ 108 ∷ 62 ∷ []) ≡ faulty 40
unfolding everything
other_type = refl

-- <scxml version='1.1'><state id='a'/></scxml>
pub other_version :
    read_of (60 ∷ 115 ∷ 99 ∷ 120 ∷ 109 ∷ 108 ∷ 32 ∷ 118 ∷ 101 ∷ 114 ∷ 115 ∷ 105 ∷ 111 ∷ 110 ∷ 61 ∷ 39 ∷ 49 ∷ 46 ∷ 49 ∷ 39 ∷ 62 ∷ 60 ∷ 115 ∷ 116 ∷ 97 ∷
    116 ∷ 101 ∷ 32 ∷ 105 ∷ 100 ∷ 61 ∷ 39 ∷ 97 ∷ 39 ∷ 47 ∷ 62 ∷ 60 ∷ 47 ∷ 115 ∷ 99 ∷ 120 ∷ 109 ∷ 108 ∷ 62 ∷ []) ≡ faulty 16
unfolding everything
other_version = refl

-- <scxml><state id='a'><onentry><log label='70000'/></onentry></state></scxml>
pub label_too_large :
    read_of (60 ∷ 115 ∷ 99 ∷ 120 ∷ 109 ∷ 108 ∷ 62 ∷ 60 ∷ 115 ∷ 116 ∷ 97 ∷ 116 ∷ 101 ∷ 32 ∷ 105 ∷ 100 ∷ 61 ∷ 39 ∷ 97 ∷ 39 ∷ 62 ∷ 60 ∷ 111 ∷ 110 ∷ 101 ∷
    110 ∷ 116 ∷ 114 ∷ 121 ∷ 62 ∷ 60 ∷ 108 ∷ 111 ∷ 103 ∷ 32 ∷ 108 ∷ 97 ∷ 98 ∷ 101 ∷ 108 ∷ 61 ∷ 39 ∷ 55 ∷ 48 ∷ 48 ∷ 48 ∷ 48 ∷ 39 ∷ 47 ∷ 62 ∷ 60 ∷ 47 ∷
    111 ∷ 110 ∷ 101 ∷ 110 ∷ 116 ∷ 114 ∷ 121 ∷ 62 ∷ 60 ∷ 47 ∷ 115 ∷ 116 ∷ 97 ∷ 116 ∷ 101 ∷ 62 ∷ 60 ∷ 47 ∷ 115 ∷ 99 ∷ 120 ∷ 109 ∷ 108 ∷ 62 ∷ []) ≡
    faulty 42
unfolding everything
label_too_large = refl

-- <scxml><state id='a'><onentry><log label=''/></onentry></state></scxml>
pub empty_label :
    read_of (60 ∷ 115 ∷ 99 ∷ 120 ∷ 109 ∷ 108 ∷ 62 ∷ 60 ∷ 115 ∷ 116 ∷ 97 ∷ 116 ∷ 101 ∷ 32 ∷ 105 ∷ 100 ∷ 61 ∷ 39 ∷ 97 ∷ 39 ∷ 62 ∷ 60 ∷ 111 ∷ 110 ∷ 101 ∷
    110 ∷ 116 ∷ 114 ∷ 121 ∷ 62 ∷ 60 ∷ 108 ∷ 111 ∷ 103 ∷ 32 ∷ 108 ∷ 97 ∷ 98 ∷ 101 ∷ 108 ∷ 61 ∷ 39 ∷ 39 ∷ 47 ∷ 62 ∷ 60 ∷ 47 ∷ 111 ∷ 110 ∷ 101 ∷ 110 ∷
    116 ∷ 114 ∷ 121 ∷ 62 ∷ 60 ∷ 47 ∷ 115 ∷ 116 ∷ 97 ∷ 116 ∷ 101 ∷ 62 ∷ 60 ∷ 47 ∷ 115 ∷ 99 ∷ 120 ∷ 109 ∷ 108 ∷ 62 ∷ []) ≡ faulty 42
unfolding everything
empty_label = refl

-- <scxml><state id='a'><onentry><send event='x' delay='4294967296'/></onentry></state></scxml>
pub delay_too_large :
    read_of (60 ∷ 115 ∷ 99 ∷ 120 ∷ 109 ∷ 108 ∷ 62 ∷ 60 ∷ 115 ∷ 116 ∷ 97 ∷ 116 ∷ 101 ∷ 32 ∷ 105 ∷ 100 ∷ 61 ∷ 39 ∷ 97 ∷ 39 ∷ 62 ∷ 60 ∷ 111 ∷ 110 ∷ 101 ∷
    110 ∷ 116 ∷ 114 ∷ 121 ∷ 62 ∷ 60 ∷ 115 ∷ 101 ∷ 110 ∷ 100 ∷ 32 ∷ 101 ∷ 118 ∷ 101 ∷ 110 ∷ 116 ∷ 61 ∷ 39 ∷ 120 ∷ 39 ∷ 32 ∷ 100 ∷ 101 ∷ 108 ∷ 97 ∷ 121
    ∷ 61 ∷ 39 ∷ 52 ∷ 50 ∷ 57 ∷ 52 ∷ 57 ∷ 54 ∷ 55 ∷ 50 ∷ 57 ∷ 54 ∷ 39 ∷ 47 ∷ 62 ∷ 60 ∷ 47 ∷ 111 ∷ 110 ∷ 101 ∷ 110 ∷ 116 ∷ 114 ∷ 121 ∷ 62 ∷ 60 ∷ 47 ∷
    115 ∷ 116 ∷ 97 ∷ 116 ∷ 101 ∷ 62 ∷ 60 ∷ 47 ∷ 115 ∷ 99 ∷ 120 ∷ 109 ∷ 108 ∷ 62 ∷ []) ≡ faulty 53
unfolding everything
delay_too_large = refl

-- <scxml><state id='a'><onentry><send event='x' delay=''/></onentry></state></scxml>
pub empty_delay :
    read_of (60 ∷ 115 ∷ 99 ∷ 120 ∷ 109 ∷ 108 ∷ 62 ∷ 60 ∷ 115 ∷ 116 ∷ 97 ∷ 116 ∷ 101 ∷ 32 ∷ 105 ∷ 100 ∷ 61 ∷ 39 ∷ 97 ∷ 39 ∷ 62 ∷ 60 ∷ 111 ∷ 110 ∷ 101 ∷
    110 ∷ 116 ∷ 114 ∷ 121 ∷ 62 ∷ 60 ∷ 115 ∷ 101 ∷ 110 ∷ 100 ∷ 32 ∷ 101 ∷ 118 ∷ 101 ∷ 110 ∷ 116 ∷ 61 ∷ 39 ∷ 120 ∷ 39 ∷ 32 ∷ 100 ∷ 101 ∷ 108 ∷ 97 ∷ 121
    ∷ 61 ∷ 39 ∷ 39 ∷ 47 ∷ 62 ∷ 60 ∷ 47 ∷ 111 ∷ 110 ∷ 101 ∷ 110 ∷ 116 ∷ 114 ∷ 121 ∷ 62 ∷ 60 ∷ 47 ∷ 115 ∷ 116 ∷ 97 ∷ 116 ∷ 101 ∷ 62 ∷ 60 ∷ 47 ∷ 115 ∷ 99
    ∷ 120 ∷ 109 ∷ 108 ∷ 62 ∷ []) ≡ faulty 53
unfolding everything
empty_delay = refl

-- <scxml><state id='a'><onentry><send event='x' delay='5s'/></onentry></state></scxml>
pub delay_in_seconds :
    read_of (60 ∷ 115 ∷ 99 ∷ 120 ∷ 109 ∷ 108 ∷ 62 ∷ 60 ∷ 115 ∷ 116 ∷ 97 ∷ 116 ∷ 101 ∷ 32 ∷ 105 ∷ 100 ∷ 61 ∷ 39 ∷ 97 ∷ 39 ∷ 62 ∷ 60 ∷ 111 ∷ 110 ∷ 101 ∷
    110 ∷ 116 ∷ 114 ∷ 121 ∷ 62 ∷ 60 ∷ 115 ∷ 101 ∷ 110 ∷ 100 ∷ 32 ∷ 101 ∷ 118 ∷ 101 ∷ 110 ∷ 116 ∷ 61 ∷ 39 ∷ 120 ∷ 39 ∷ 32 ∷ 100 ∷ 101 ∷ 108 ∷ 97 ∷ 121
    ∷ 61 ∷ 39 ∷ 53 ∷ 115 ∷ 39 ∷ 47 ∷ 62 ∷ 60 ∷ 47 ∷ 111 ∷ 110 ∷ 101 ∷ 110 ∷ 116 ∷ 114 ∷ 121 ∷ 62 ∷ 60 ∷ 47 ∷ 115 ∷ 116 ∷ 97 ∷ 116 ∷ 101 ∷ 62 ∷ 60 ∷ 47
    ∷ 115 ∷ 99 ∷ 120 ∷ 109 ∷ 108 ∷ 62 ∷ []) ≡ faulty 53
unfolding everything
delay_in_seconds = refl

-- <scxml><state id='a'><onentry><send id='k' event='x'/></onentry><transition event='x' target='k'/></state></scxml>
pub send_id_is_no_row :
    read_of (60 ∷ 115 ∷ 99 ∷ 120 ∷ 109 ∷ 108 ∷ 62 ∷ 60 ∷ 115 ∷ 116 ∷ 97 ∷ 116 ∷ 101 ∷ 32 ∷ 105 ∷ 100 ∷ 61 ∷ 39 ∷ 97 ∷ 39 ∷ 62 ∷ 60 ∷ 111 ∷ 110 ∷ 101 ∷
    110 ∷ 116 ∷ 114 ∷ 121 ∷ 62 ∷ 60 ∷ 115 ∷ 101 ∷ 110 ∷ 100 ∷ 32 ∷ 105 ∷ 100 ∷ 61 ∷ 39 ∷ 107 ∷ 39 ∷ 32 ∷ 101 ∷ 118 ∷ 101 ∷ 110 ∷ 116 ∷ 61 ∷ 39 ∷ 120 ∷
    39 ∷ 47 ∷ 62 ∷ 60 ∷ 47 ∷ 111 ∷ 110 ∷ 101 ∷ 110 ∷ 116 ∷ 114 ∷ 121 ∷ 62 ∷ 60 ∷ 116 ∷ 114 ∷ 97 ∷ 110 ∷ 115 ∷ 105 ∷ 116 ∷ 105 ∷ 111 ∷ 110 ∷ 32 ∷ 101 ∷
    118 ∷ 101 ∷ 110 ∷ 116 ∷ 61 ∷ 39 ∷ 120 ∷ 39 ∷ 32 ∷ 116 ∷ 97 ∷ 114 ∷ 103 ∷ 101 ∷ 116 ∷ 61 ∷ 39 ∷ 107 ∷ 39 ∷ 47 ∷ 62 ∷ 60 ∷ 47 ∷ 115 ∷ 116 ∷ 97 ∷ 116
    ∷ 101 ∷ 62 ∷ 60 ∷ 47 ∷ 115 ∷ 99 ∷ 120 ∷ 109 ∷ 108 ∷ 62 ∷ []) ≡ faulty 94
unfolding everything
send_id_is_no_row = refl

-- <scxml><state id='a'><onentry><cancel sendid='aaaaaaaaaaaaaaaaaaaaaaaaaaaaaaaaaaaaaaaaaaaaaaaaaaaaaaaaaaaaaaaa'/></onentry></state></scxml>
pub sendid_of_64 :
    read_of (60 ∷ 115 ∷ 99 ∷ 120 ∷ 109 ∷ 108 ∷ 62 ∷ 60 ∷ 115 ∷ 116 ∷ 97 ∷ 116 ∷ 101 ∷ 32 ∷ 105 ∷ 100 ∷ 61 ∷ 39 ∷ 97 ∷ 39 ∷ 62 ∷ 60 ∷ 111 ∷ 110 ∷ 101 ∷
    110 ∷ 116 ∷ 114 ∷ 121 ∷ 62 ∷ 60 ∷ 99 ∷ 97 ∷ 110 ∷ 99 ∷ 101 ∷ 108 ∷ 32 ∷ 115 ∷ 101 ∷ 110 ∷ 100 ∷ 105 ∷ 100 ∷ 61 ∷ 39 ∷ 97 ∷ 97 ∷ 97 ∷ 97 ∷ 97 ∷ 97
    ∷ 97 ∷ 97 ∷ 97 ∷ 97 ∷ 97 ∷ 97 ∷ 97 ∷ 97 ∷ 97 ∷ 97 ∷ 97 ∷ 97 ∷ 97 ∷ 97 ∷ 97 ∷ 97 ∷ 97 ∷ 97 ∷ 97 ∷ 97 ∷ 97 ∷ 97 ∷ 97 ∷ 97 ∷ 97 ∷ 97 ∷ 97 ∷ 97 ∷ 97 ∷
    97 ∷ 97 ∷ 97 ∷ 97 ∷ 97 ∷ 97 ∷ 97 ∷ 97 ∷ 97 ∷ 97 ∷ 97 ∷ 97 ∷ 97 ∷ 97 ∷ 97 ∷ 97 ∷ 97 ∷ 97 ∷ 97 ∷ 97 ∷ 97 ∷ 97 ∷ 97 ∷ 97 ∷ 97 ∷ 97 ∷ 97 ∷ 97 ∷ 97 ∷
    39 ∷ 47 ∷ 62 ∷ 60 ∷ 47 ∷ 111 ∷ 110 ∷ 101 ∷ 110 ∷ 116 ∷ 114 ∷ 121 ∷ 62 ∷ 60 ∷ 47 ∷ 115 ∷ 116 ∷ 97 ∷ 116 ∷ 101 ∷ 62 ∷ 60 ∷ 47 ∷ 115 ∷ 99 ∷ 120 ∷ 109
    ∷ 108 ∷ 62 ∷ []) ≡ faulty 46
unfolding everything
sendid_of_64 = refl

-- <scxml><state id='s'/><state id='t'><transition cond='In(s)'/></state></scxml>
pub cond_without_quotes :
    read_of (60 ∷ 115 ∷ 99 ∷ 120 ∷ 109 ∷ 108 ∷ 62 ∷ 60 ∷ 115 ∷ 116 ∷ 97 ∷ 116 ∷ 101 ∷ 32 ∷ 105 ∷ 100 ∷ 61 ∷ 39 ∷ 115 ∷ 39 ∷ 47 ∷ 62 ∷ 60 ∷ 115 ∷ 116 ∷
    97 ∷ 116 ∷ 101 ∷ 32 ∷ 105 ∷ 100 ∷ 61 ∷ 39 ∷ 116 ∷ 39 ∷ 62 ∷ 60 ∷ 116 ∷ 114 ∷ 97 ∷ 110 ∷ 115 ∷ 105 ∷ 116 ∷ 105 ∷ 111 ∷ 110 ∷ 32 ∷ 99 ∷ 111 ∷ 110 ∷
    100 ∷ 61 ∷ 39 ∷ 73 ∷ 110 ∷ 40 ∷ 115 ∷ 41 ∷ 39 ∷ 47 ∷ 62 ∷ 60 ∷ 47 ∷ 115 ∷ 116 ∷ 97 ∷ 116 ∷ 101 ∷ 62 ∷ 60 ∷ 47 ∷ 115 ∷ 99 ∷ 120 ∷ 109 ∷ 108 ∷ 62 ∷
    []) ≡ faulty 54
unfolding everything
cond_without_quotes = refl

-- <scxml><state id='s'/><state id='t'><transition cond="In( 's' )"/></state></scxml>
pub cond_with_blanks :
    read_of (60 ∷ 115 ∷ 99 ∷ 120 ∷ 109 ∷ 108 ∷ 62 ∷ 60 ∷ 115 ∷ 116 ∷ 97 ∷ 116 ∷ 101 ∷ 32 ∷ 105 ∷ 100 ∷ 61 ∷ 39 ∷ 115 ∷ 39 ∷ 47 ∷ 62 ∷ 60 ∷ 115 ∷ 116 ∷
    97 ∷ 116 ∷ 101 ∷ 32 ∷ 105 ∷ 100 ∷ 61 ∷ 39 ∷ 116 ∷ 39 ∷ 62 ∷ 60 ∷ 116 ∷ 114 ∷ 97 ∷ 110 ∷ 115 ∷ 105 ∷ 116 ∷ 105 ∷ 111 ∷ 110 ∷ 32 ∷ 99 ∷ 111 ∷ 110 ∷
    100 ∷ 61 ∷ 34 ∷ 73 ∷ 110 ∷ 40 ∷ 32 ∷ 39 ∷ 115 ∷ 39 ∷ 32 ∷ 41 ∷ 34 ∷ 47 ∷ 62 ∷ 60 ∷ 47 ∷ 115 ∷ 116 ∷ 97 ∷ 116 ∷ 101 ∷ 62 ∷ 60 ∷ 47 ∷ 115 ∷ 99 ∷ 120
    ∷ 109 ∷ 108 ∷ 62 ∷ []) ≡ faulty 54
unfolding everything
cond_with_blanks = refl

-- <scxml><state id='s'/><state id='t'><transition cond="In('nix')"/></state></scxml>
pub cond_unknown :
    read_of (60 ∷ 115 ∷ 99 ∷ 120 ∷ 109 ∷ 108 ∷ 62 ∷ 60 ∷ 115 ∷ 116 ∷ 97 ∷ 116 ∷ 101 ∷ 32 ∷ 105 ∷ 100 ∷ 61 ∷ 39 ∷ 115 ∷ 39 ∷ 47 ∷ 62 ∷ 60 ∷ 115 ∷ 116 ∷
    97 ∷ 116 ∷ 101 ∷ 32 ∷ 105 ∷ 100 ∷ 61 ∷ 39 ∷ 116 ∷ 39 ∷ 62 ∷ 60 ∷ 116 ∷ 114 ∷ 97 ∷ 110 ∷ 115 ∷ 105 ∷ 116 ∷ 105 ∷ 111 ∷ 110 ∷ 32 ∷ 99 ∷ 111 ∷ 110 ∷
    100 ∷ 61 ∷ 34 ∷ 73 ∷ 110 ∷ 40 ∷ 39 ∷ 110 ∷ 105 ∷ 120 ∷ 39 ∷ 41 ∷ 34 ∷ 47 ∷ 62 ∷ 60 ∷ 47 ∷ 115 ∷ 116 ∷ 97 ∷ 116 ∷ 101 ∷ 62 ∷ 60 ∷ 47 ∷ 115 ∷ 99 ∷
    120 ∷ 109 ∷ 108 ∷ 62 ∷ []) ≡ faulty 58
unfolding everything
cond_unknown = refl

-- <scxml><state id='s'/><state id='t'><transition target='s nix'/></state></scxml>
pub target_unknown :
    read_of (60 ∷ 115 ∷ 99 ∷ 120 ∷ 109 ∷ 108 ∷ 62 ∷ 60 ∷ 115 ∷ 116 ∷ 97 ∷ 116 ∷ 101 ∷ 32 ∷ 105 ∷ 100 ∷ 61 ∷ 39 ∷ 115 ∷ 39 ∷ 47 ∷ 62 ∷ 60 ∷ 115 ∷ 116 ∷
    97 ∷ 116 ∷ 101 ∷ 32 ∷ 105 ∷ 100 ∷ 61 ∷ 39 ∷ 116 ∷ 39 ∷ 62 ∷ 60 ∷ 116 ∷ 114 ∷ 97 ∷ 110 ∷ 115 ∷ 105 ∷ 116 ∷ 105 ∷ 111 ∷ 110 ∷ 32 ∷ 116 ∷ 97 ∷ 114 ∷
    103 ∷ 101 ∷ 116 ∷ 61 ∷ 39 ∷ 115 ∷ 32 ∷ 110 ∷ 105 ∷ 120 ∷ 39 ∷ 47 ∷ 62 ∷ 60 ∷ 47 ∷ 115 ∷ 116 ∷ 97 ∷ 116 ∷ 101 ∷ 62 ∷ 60 ∷ 47 ∷ 115 ∷ 99 ∷ 120 ∷ 109
    ∷ 108 ∷ 62 ∷ []) ≡ faulty 58
unfolding everything
target_unknown = refl

-- <scxml><state id='aaaaaaaaaaaaaaaaaaaaaaaaaaaaaaaaaaaaaaaaaaaaaaaaaaaaaaaaaaaaaaaa'/></scxml>
pub id_of_64 :
    read_of (60 ∷ 115 ∷ 99 ∷ 120 ∷ 109 ∷ 108 ∷ 62 ∷ 60 ∷ 115 ∷ 116 ∷ 97 ∷ 116 ∷ 101 ∷ 32 ∷ 105 ∷ 100 ∷ 61 ∷ 39 ∷ 97 ∷ 97 ∷ 97 ∷ 97 ∷ 97 ∷ 97 ∷ 97 ∷ 97
    ∷ 97 ∷ 97 ∷ 97 ∷ 97 ∷ 97 ∷ 97 ∷ 97 ∷ 97 ∷ 97 ∷ 97 ∷ 97 ∷ 97 ∷ 97 ∷ 97 ∷ 97 ∷ 97 ∷ 97 ∷ 97 ∷ 97 ∷ 97 ∷ 97 ∷ 97 ∷ 97 ∷ 97 ∷ 97 ∷ 97 ∷ 97 ∷ 97 ∷ 97 ∷
    97 ∷ 97 ∷ 97 ∷ 97 ∷ 97 ∷ 97 ∷ 97 ∷ 97 ∷ 97 ∷ 97 ∷ 97 ∷ 97 ∷ 97 ∷ 97 ∷ 97 ∷ 97 ∷ 97 ∷ 97 ∷ 97 ∷ 97 ∷ 97 ∷ 97 ∷ 97 ∷ 97 ∷ 97 ∷ 97 ∷ 97 ∷ 39 ∷ 47 ∷
    62 ∷ 60 ∷ 47 ∷ 115 ∷ 99 ∷ 120 ∷ 109 ∷ 108 ∷ 62 ∷ []) ≡ faulty 18
unfolding everything
id_of_64 = refl

-- <scxml initial='aaaaaaaaaaaaaaaaaaaaaaaaaaaaaaaaaaaaaaaaaaaaaaaaaaaaaaaaaaaaaaaa'><state id='aaaaaaaaaaaaaaaaaaaaaaaaaaaaaaaaaaaaaaaaaaaaaaaaaaaaaaaaaaaaaaaa'/></scxml>
pub reference_of_64 :
    read_of (60 ∷ 115 ∷ 99 ∷ 120 ∷ 109 ∷ 108 ∷ 32 ∷ 105 ∷ 110 ∷ 105 ∷ 116 ∷ 105 ∷ 97 ∷ 108 ∷ 61 ∷ 39 ∷ 97 ∷ 97 ∷ 97 ∷ 97 ∷ 97 ∷ 97 ∷ 97 ∷ 97 ∷ 97 ∷ 97
    ∷ 97 ∷ 97 ∷ 97 ∷ 97 ∷ 97 ∷ 97 ∷ 97 ∷ 97 ∷ 97 ∷ 97 ∷ 97 ∷ 97 ∷ 97 ∷ 97 ∷ 97 ∷ 97 ∷ 97 ∷ 97 ∷ 97 ∷ 97 ∷ 97 ∷ 97 ∷ 97 ∷ 97 ∷ 97 ∷ 97 ∷ 97 ∷ 97 ∷ 97 ∷
    97 ∷ 97 ∷ 97 ∷ 97 ∷ 97 ∷ 97 ∷ 97 ∷ 97 ∷ 97 ∷ 97 ∷ 97 ∷ 97 ∷ 97 ∷ 97 ∷ 97 ∷ 97 ∷ 97 ∷ 97 ∷ 97 ∷ 97 ∷ 97 ∷ 97 ∷ 97 ∷ 97 ∷ 97 ∷ 39 ∷ 62 ∷ 60 ∷ 115 ∷
    116 ∷ 97 ∷ 116 ∷ 101 ∷ 32 ∷ 105 ∷ 100 ∷ 61 ∷ 39 ∷ 97 ∷ 97 ∷ 97 ∷ 97 ∷ 97 ∷ 97 ∷ 97 ∷ 97 ∷ 97 ∷ 97 ∷ 97 ∷ 97 ∷ 97 ∷ 97 ∷ 97 ∷ 97 ∷ 97 ∷ 97 ∷ 97 ∷
    97 ∷ 97 ∷ 97 ∷ 97 ∷ 97 ∷ 97 ∷ 97 ∷ 97 ∷ 97 ∷ 97 ∷ 97 ∷ 97 ∷ 97 ∷ 97 ∷ 97 ∷ 97 ∷ 97 ∷ 97 ∷ 97 ∷ 97 ∷ 97 ∷ 97 ∷ 97 ∷ 97 ∷ 97 ∷ 97 ∷ 97 ∷ 97 ∷ 97 ∷
    97 ∷ 97 ∷ 97 ∷ 97 ∷ 97 ∷ 97 ∷ 97 ∷ 97 ∷ 97 ∷ 97 ∷ 97 ∷ 97 ∷ 97 ∷ 97 ∷ 97 ∷ 97 ∷ 39 ∷ 47 ∷ 62 ∷ 60 ∷ 47 ∷ 115 ∷ 99 ∷ 120 ∷ 109 ∷ 108 ∷ 62 ∷ []) ≡
    faulty 16
unfolding everything
reference_of_64 = refl

-- <scxml><state initial='q'/></scxml>
pub missing_id :
    read_of (60 ∷ 115 ∷ 99 ∷ 120 ∷ 109 ∷ 108 ∷ 62 ∷ 60 ∷ 115 ∷ 116 ∷ 97 ∷ 116 ∷ 101 ∷ 32 ∷ 105 ∷ 110 ∷ 105 ∷ 116 ∷ 105 ∷ 97 ∷ 108 ∷ 61 ∷ 39 ∷ 113 ∷ 39
    ∷ 47 ∷ 62 ∷ 60 ∷ 47 ∷ 115 ∷ 99 ∷ 120 ∷ 109 ∷ 108 ∷ 62 ∷ []) ≡ faulty 7
unfolding everything
missing_id = refl
