mod Vouchers
