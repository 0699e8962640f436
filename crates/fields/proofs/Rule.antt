-- The rule of the table holds: its parts, each shown by one test over the whole.
use Rattle.ranges.specs.Values.{value_of, value_by}
use Rattle.ranges.proofs.Tables.{each_goes}
use Rattle.fields.specs.Fields.{fields}
use Rattle.fields.specs.promises.Rule.{Rule}
use Rattle.fields.proofs.Rules.{rows, fields_rule, apart, parameter_number, parameter_known, number_place, place_then_parameter, parameter_then_place}
use Rattle.fields.proofs.Rules.{unused_nowhere, name_unnumbered, bus_unnumbered}
use Rattle.fields.proofs.Places.{place_past}
use Rattle.fields.proofs.Signs.{amount_goes, detune_goes, name_goes, field_signs, ranged, reached}

pub rule : Rule
unfolding fields value_of value_by
rule = record {
  rows = rows;
  of_tables = fields_rule;
  numbered = λ k l h. (_, (parameter_number k l h, parameter_known k l h));
  placed = λ n h u. let p = number_place n h u in (p.0, (p.1.low, (p.1.high, p.1.place)));
  there = place_then_parameter;
  back = parameter_then_place;
  nowhere = unused_nowhere;
  above = place_past;
  name_unnumbered = name_unnumbered;
  bus_unnumbered = bus_unnumbered;
  amount = amount_goes;
  detune = detune_goes;
  name = name_goes;
  bus_source = each_goes fields _ _ 104 3 10 tt;
  bus_amount = each_goes fields _ _ 105 3 10 tt;
  bus_destination = each_goes fields _ _ 106 3 10 tt;
  signs = field_signs;
  ranged = ranged;
  reached = reached;
  apart = apart;
}
