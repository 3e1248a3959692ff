-- The two tables of exp, by their bit patterns.
use Rattle.std.specs.Prelude.{ℕ, min, List, [], ◌∷◌, get_or}
use Rattle.elementary_tables.specs.declared.exp_table.ExpRow.{ExpRow}
use Rattle.float.specs.Ops.{bits}

-- 2^(j/128) for j from 0 to 127, rounded
abbrev pub heads : List ℕ
heads =
    0x3ff0_0000_0000_0000 ∷ 0x3ff0_163d_a9fb_3335 ∷ 0x3ff0_2c9a_3e77_8061 ∷ 0x3ff0_4315_e86e_7f85 ∷
    0x3ff0_59b0_d315_8574 ∷ 0x3ff0_706b_29dd_f6de ∷ 0x3ff0_8745_1875_9bc8 ∷ 0x3ff0_9e3e_cac6_f383 ∷
    0x3ff0_b558_6cf9_890f ∷ 0x3ff0_cc92_2b72_47f7 ∷ 0x3ff0_e3ec_32d3_d1a2 ∷ 0x3ff0_fb66_affe_d31b ∷
    0x3ff1_1301_d012_5b51 ∷ 0x3ff1_2abd_c06c_31cc ∷ 0x3ff1_429a_aea9_2de0 ∷ 0x3ff1_5a98_c8a5_8e51 ∷
    0x3ff1_72b8_3c7d_517b ∷ 0x3ff1_8af9_388c_8dea ∷ 0x3ff1_a35b_eb6f_cb75 ∷ 0x3ff1_bbe0_8404_5cd4 ∷
    0x3ff1_d487_3168_b9aa ∷ 0x3ff1_ed50_22fc_d91d ∷ 0x3ff2_063b_8862_8cd6 ∷ 0x3ff2_1f49_917d_dc96 ∷
    0x3ff2_387a_6e75_6238 ∷ 0x3ff2_51ce_4fb2_a63f ∷ 0x3ff2_6b45_65e2_7cdd ∷ 0x3ff2_84df_e1f5_6381 ∷
    0x3ff2_9e9d_f51f_dee1 ∷ 0x3ff2_b87f_d0da_d990 ∷ 0x3ff2_d285_a6e4_030b ∷ 0x3ff2_ecaf_a93e_2f56 ∷
    0x3ff3_06fe_0a31_b715 ∷ 0x3ff3_2170_fc4c_d831 ∷ 0x3ff3_3c08_b264_16ff ∷ 0x3ff3_56c5_5f92_9ff1 ∷
    0x3ff3_71a7_373a_a9cb ∷ 0x3ff3_8cae_6d05_d866 ∷ 0x3ff3_a7db_34e5_9ff7 ∷ 0x3ff3_c32d_c313_a8e5 ∷
    0x3ff3_dea6_4c12_3422 ∷ 0x3ff3_fa45_04ac_801c ∷ 0x3ff4_160a_21f7_2e2a ∷ 0x3ff4_31f5_d950_a897 ∷
    0x3ff4_4e08_6061_892d ∷ 0x3ff4_6a41_ed1d_0057 ∷ 0x3ff4_86a2_b5c1_3cd0 ∷ 0x3ff4_a32a_f0d7_d3de ∷
    0x3ff4_bfda_d536_2a27 ∷ 0x3ff4_dcb2_99fd_dd0d ∷ 0x3ff4_f9b2_769d_2ca7 ∷ 0x3ff5_16da_a2cf_6642 ∷
    0x3ff5_342b_569d_4f82 ∷ 0x3ff5_51a4_ca5d_920f ∷ 0x3ff5_6f47_36b5_27da ∷ 0x3ff5_8d12_d497_c7fd ∷
    0x3ff5_ab07_dd48_5429 ∷ 0x3ff5_c926_8a59_46b7 ∷ 0x3ff5_e76f_15ad_2148 ∷ 0x3ff6_05e1_b976_dc09 ∷
    0x3ff6_247e_b03a_5585 ∷ 0x3ff6_4346_34cc_c320 ∷ 0x3ff6_6238_8255_2225 ∷ 0x3ff6_8155_d44c_a973 ∷
    0x3ff6_a09e_667f_3bcd ∷ 0x3ff6_c012_750b_dabf ∷ 0x3ff6_dfb2_3c65_1a2f ∷ 0x3ff6_ff7d_f951_9484 ∷
    0x3ff7_1f75_e8ec_5f74 ∷ 0x3ff7_3f9a_48a5_8174 ∷ 0x3ff7_5feb_5642_67c9 ∷ 0x3ff7_8069_4fde_5d3f ∷
    0x3ff7_a114_73eb_0187 ∷ 0x3ff7_c1ed_0130_c132 ∷ 0x3ff7_e2f3_36cf_4e62 ∷ 0x3ff8_0427_543e_1a12 ∷
    0x3ff8_2589_994c_ce13 ∷ 0x3ff8_471a_4623_c7ad ∷ 0x3ff8_68d9_9b44_92ed ∷ 0x3ff8_8ac7_d98a_6699 ∷
    0x3ff8_ace5_422a_a0db ∷ 0x3ff8_cf32_16b5_448c ∷ 0x3ff8_f1ae_9915_7736 ∷ 0x3ff9_145b_0b91_ffc6 ∷
    0x3ff9_3737_b0cd_c5e5 ∷ 0x3ff9_5a44_cbc8_520f ∷ 0x3ff9_7d82_9fde_4e50 ∷ 0x3ff9_a0f1_70ca_07ba ∷
    0x3ff9_c491_82a3_f090 ∷ 0x3ff9_e863_19e3_2323 ∷ 0x3ffa_0c66_7b5d_e565 ∷ 0x3ffa_309b_ec4a_2d33 ∷
    0x3ffa_5503_b23e_255d ∷ 0x3ffa_799e_1330_b358 ∷ 0x3ffa_9e6b_5579_fdbf ∷ 0x3ffa_c36b_bfd3_f37a ∷
    0x3ffa_e89f_995a_d3ad ∷ 0x3ffb_0e07_298d_b666 ∷ 0x3ffb_33a2_b84f_15fb ∷ 0x3ffb_5972_8de5_593a ∷
    0x3ffb_7f76_f2fb_5e47 ∷ 0x3ffb_a5b0_30a1_064a ∷ 0x3ffb_cc1e_904b_c1d2 ∷ 0x3ffb_f2c2_5bd7_1e09 ∷
    0x3ffc_199b_dd85_529c ∷ 0x3ffc_40ab_5fff_d07a ∷ 0x3ffc_67f1_2e57_d14b ∷ 0x3ffc_8f6d_9406_e7b5 ∷
    0x3ffc_b720_dcef_9069 ∷ 0x3ffc_df0b_555d_c3fa ∷ 0x3ffd_072d_4a07_897c ∷ 0x3ffd_2f87_080d_89f2 ∷
    0x3ffd_5818_dcfb_a487 ∷ 0x3ffd_80e3_16c9_8398 ∷ 0x3ffd_a9e6_03db_3285 ∷ 0x3ffd_d321_f301_b460 ∷
    0x3ffd_fc97_337b_9b5f ∷ 0x3ffe_2646_14f5_a129 ∷ 0x3ffe_502e_e78b_3ff6 ∷ 0x3ffe_7a51_fbc7_4c83 ∷
    0x3ffe_a4af_a2a4_90da ∷ 0x3ffe_cf48_2d8e_67f1 ∷ 0x3ffe_fa1b_ee61_5a27 ∷ 0x3fff_252b_376b_ba97 ∷
    0x3fff_5076_5b6e_4540 ∷ 0x3fff_7bfd_ad9c_be14 ∷ 0x3fff_a7c1_819e_90d8 ∷ 0x3fff_d3c2_2b8f_71f1 ∷ []

-- what is missing from the head j, relative to it: (2^(j/128) - head) / head
abbrev pub tails : List ℕ
tails =
    0x0000_0000_0000_0000 ∷ 0x3c9b_3b4f_1a88_bf6e ∷ 0xbc71_6013_9cd8_dc5d ∷ 0xbc90_5e7a_1087_66d1 ∷
    0x3c8c_d252_3567_f613 ∷ 0xbc8b_ce80_23f9_8efa ∷ 0x3c60_f74e_61e6_c861 ∷ 0x3c90_a3e4_5b33_d399 ∷
    0x3c97_9aa6_5d83_7b6d ∷ 0x3c8e_b51a_92fd_effc ∷ 0x3c3e_be3d_702f_9cd1 ∷ 0xbc6a_0334_8990_6e0b ∷
    0xbc95_5652_2a2f_bd0e ∷ 0xbc50_80ef_8c4e_ea55 ∷ 0xbc91_c923_b9d5_f416 ∷ 0x3c80_d3e3_e95c_55af ∷
    0xbc80_1b15_eaa5_9348 ∷ 0xbc8f_1ff0_55de_323d ∷ 0x3c8b_898c_3f13_53bf ∷ 0xbc96_d99c_7611_eb26 ∷
    0x3c9a_ecf7_3e3a_2f60 ∷ 0xbc8f_e782_cb86_389d ∷ 0x3c8a_6f41_44a6_c38d ∷ 0x3c80_7a05_b0e4_047d ∷
    0x3c96_8efd_e3a8_a894 ∷ 0x3c87_5e18_f274_487d ∷ 0x3c80_472b_981f_e7f2 ∷ 0xbc96_b87b_3f71_085e ∷
    0x3c82_f7e1_6d09_ab31 ∷ 0xbc3d_219b_1a6f_bffa ∷ 0x3c8b_3782_720c_0ab4 ∷ 0x3c6e_1492_89ce_cb8f ∷
    0x3c83_4d75_4db0_abb6 ∷ 0x3c86_4201_e2ac_744c ∷ 0x3c8f_dd39_5dd3_f84a ∷ 0xbc86_a380_3b8e_5b04 ∷
    0xbc92_4aed_cc4b_5068 ∷ 0xbc99_07f8_1b51_2d8e ∷ 0xbc71_d1e8_3e94_36d2 ∷ 0xbc99_1919_b3ce_1b15 ∷
    0x3c85_9f48_a72a_4c6d ∷ 0xbc93_1260_7a28_698a ∷ 0xbc58_a78f_4817_895b ∷ 0xbc7c_2c9b_6749_9a1b ∷
    0x3c43_63ed_60c2_ac11 ∷ 0x3c96_6609_3b06_64ef ∷ 0x3c6e_cce1_daa1_0379 ∷ 0x3c93_ff8e_3f0f_1230 ∷
    0x3c76_90ce_bb7a_afb0 ∷ 0x3c93_1dbd_eb54_e077 ∷ 0xbc8f_9434_0071_a38e ∷ 0xbc87_decc_dc93_a349 ∷
    0xbc78_dec6_bd0f_385f ∷ 0xbc86_1246_ec7b_5cf6 ∷ 0x3c93_3505_18fd_d78e ∷ 0x3c7b_98b7_2f8a_9b05 ∷
    0x3c90_63e1_e21c_5409 ∷ 0x3c34_c785_5019_c6ea ∷ 0x3c94_32e6_2b64_c035 ∷ 0xbc8c_e44a_6199_769f ∷
    0xbc8c_33c5_3bef_4da8 ∷ 0xbc84_5378_892b_e9ae ∷ 0xbc93_cedd_7856_5858 ∷ 0x3c57_10aa_807e_1964 ∷
    0xbc93_b3ef_bf5e_2228 ∷ 0xbc6a_12ad_8734_b982 ∷ 0xbc63_67ef_b86d_a9ee ∷ 0xbc80_dc3d_54e0_8851 ∷
    0xbc78_1f64_7e5a_3ecf ∷ 0xbc86_ee4a_c08b_7db0 ∷ 0xbc86_1932_1e55_e68a ∷ 0x3c90_9ccb_5e09_d4d3 ∷
    0xbc7b_32dc_b94d_a51d ∷ 0x3c94_ecfd_5467_c06b ∷ 0x3c65_ebe1_abd6_6c55 ∷ 0xbc88_a1c5_2fb3_cf42 ∷
    0xbc93_69b6_f13b_3734 ∷ 0xbc80_5e84_3a19_ff1e ∷ 0xbc94_d450_d872_576e ∷ 0x3c90_ad67_5b0e_8a00 ∷
    0x3c8d_b72f_c1f0_eab4 ∷ 0xbc65_b660_9cc5_e7ff ∷ 0x3c7b_f683_59f3_5f44 ∷ 0xbc93_091f_a71e_3d83 ∷
    0xbc5d_a9b8_8b6c_1e29 ∷ 0xbc6c_23f9_7c90_b959 ∷ 0xbc92_4343_22f4_f9aa ∷ 0xbc85_ca6c_d766_8e4b ∷
    0x3c71_affc_2b91_ce27 ∷ 0x3c6d_d235_e10a_73bb ∷ 0xbc87_c504_2262_2263 ∷ 0x3c8b_1c86_e3e2_31d5 ∷
    0xbc91_bbd1_d3bc_bb15 ∷ 0x3c90_cc31_9cee_31d2 ∷ 0x3c84_6984_6e73_5ab3 ∷ 0xbc82_dfcd_978e_9db4 ∷
    0x3c8c_1a77_92cb_3387 ∷ 0xbc90_7b8f_4ad1_d9fa ∷ 0xbc55_c3d9_56dc_aeba ∷ 0xbc90_a40e_3da6_f640 ∷
    0xbc68_d6f4_38ad_9334 ∷ 0xbc91_eee2_6b58_8a35 ∷ 0x3c74_ffd7_0a5f_ddcd ∷ 0xbc91_bdfb_fa92_98ac ∷
    0x3c73_6eae_30af_0cb3 ∷ 0x3c8e_e332_5c9f_fd94 ∷ 0x3c84_e08f_d109_59ac ∷ 0x3c63_cdaf_384e_1a67 ∷
    0x3c67_6b2c_6c92_1968 ∷ 0xbc80_8a18_83cc_b5d2 ∷ 0xbc8f_ad5d_3fff_fa6f ∷ 0xbc90_0dae_3875_a949 ∷
    0x3c74_a385_a63d_07a7 ∷ 0xbc82_919e_2040_220f ∷ 0x3c8e_5a50_d5c1_92ac ∷ 0x3c84_3a59_ac01_6b4b ∷
    0xbc82_d521_07b4_3e1f ∷ 0xbc89_2ab9_3b47_0dc9 ∷ 0x3c74_b604_603a_88d3 ∷ 0x3c83_c5ec_519d_7271 ∷
    0xbc8f_f712_8fd3_91f0 ∷ 0xbc8d_ae98_e223_747d ∷ 0x3c8e_c3bc_41aa_2008 ∷ 0x3c84_2b94_c3a9_eb32 ∷
    0x3c8a_64a9_31d1_85ee ∷ 0xbc8e_37ba_e43b_e3ed ∷ 0x3c77_893b_4d91_cd9d ∷ 0x3c53_05c1_4160_cc89 ∷ []

-- 2^(j/128), rounded, as a bit pattern, and what the rounding left out, relative to it; from 127 on the last row
unfoldable pub exp_row_of : ℕ → ExpRow
exp_row_of j = record { head = get_or heads (min j 127) 0; tail = bits (get_or tails (min j 127) 0) }
