pub mod SenseLaws
