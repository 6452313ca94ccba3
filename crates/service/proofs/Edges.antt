-- The cases at the edges, one by one. Assumes nothing.
use mathlib.Core.Path.{refl}
use Rattle.wire.specs.Codec.{empty, byte, raw, guard, seq, as_type}
use Rattle.wire.specs.Field.{big_endian, limited}
use Rattle.wire.specs.Number.{number_dec, number_enc, number, v_int, v_long}
use Rattle.field.specs.FieldRead.{limited_text}
use Rattle.text.specs.Text.{text_after, is_text}
use Rattle.hexadecimal.specs.Hex.{digit_of, is_digit, digit_value, to_hex, from_hex}
use Rattle.hexadecimal.specs.Number.{from_digits}
use Rattle.message.specs.Edition.{edition_of}
use Rattle.message.specs.Operation.{find_code}
use Rattle.message.specs.Refusal.{error_table, error_in, refusal}
use Rattle.message.specs.ReplyTable.{body_at, reply_status}
use Rattle.message.specs.Payload.{text_body, fields_of}
use Rattle.message.specs.Reply.{fields, message, error_reply}
use Rattle.message.specs.Arguments.{shape_of, args_of}
use Rattle.message.specs.Request.{operation, transaction, fields as request-fields, request}
use Rattle.message.specs.Start.{start, id_in}
use Rattle.map.specs.Reply.{flat, shown_pieces, pieces}
use Rattle.map.specs.Plan.{plans, plan}
use Rattle.map.specs.Shown.{shows}
use Rattle.map.specs.Step.{entry, stored, held, full, planned, status_of, result, act, core, swept, noted, arrive, step}
use Rattle.service.specs.Line.{asks, on_frame, line_step}
use Rattle.service.specs.Serve.{on_step, on_read}
use Rattle.service.specs.Edges.{All, cases}
use Rattle.wire.specs.Same.{same_list}
use Rattle.map.specs.State.{fresh, find, without}
use Rattle.map.specs.Deadline.{deadline, expired}

pub edges : All cases fresh
unfolding cases limited_text empty byte raw guard seq as_type big_endian limited number_dec number_enc number v_int v_long text_after is_text digit_of is_digit digit_value to_hex from_hex from_digits edition_of find_code error_table error_in refusal body_at text_body fields_of fields message error_reply shape_of args_of operation transaction request-fields request start id_in flat shown_pieces pieces same_list find without deadline expired plans plan shows entry stored held full planned status_of reply_status result act core swept noted arrive step on_step on_read asks on_frame line_step
edges =
    ((refl, refl), ((refl, refl), ((refl, refl), ((refl, refl), ((refl, refl), ((refl, refl), ((refl, tt), ((refl, tt), ((refl, tt), ((refl, refl), (refl, (refl, (refl, (refl, (refl, tt)))))))))))))))
